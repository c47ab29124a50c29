use Rattle.std.proofs.Common.{◌≡◌, ◌∙◌, ◌∷◌, ◌+◌, suc, drop, drop-cons, Some, sym, ap, arith}
use Rattle.std.proofs.lemmas.Grind.{common_steps}
use Rattle.dc_hold.specs.Buffers.{names_over}
use Rattle.dc_hold.proofs.Written.{one_more, Writes}
use Rattle.dc_hold.proofs.buffer.put_names.Goals as goal
use Rattle.dc_hold.proofs.buffer.put_names.Goals.{in-Some, in-None}

pub loop-name-preserved : goal.loop-name-preserved
loop-name-preserved c = record {
  written =
      let names = c.args.names.now in let name = c.name-item.result in let index = c.loop-name.name-index in let next : suc index ≡ index + 1 = omega arith in
      let here : drop index names ≡ name ∷ drop (index + 1) names = drop-cons names index name c.loop-name-test.true ∙ (λ i. sym c.name-item.is i ∷ drop (next i) names) in
      let so : Writes (names_over c.args.buffer.now names) c.loop-name.buffer (name ∷ drop (index + 1) names) c.loop-name.next = rw here at c.loop-name.invariant.written in
      elim c.match-next.branch [
        | in-Some w ↦ let put = w.put_name-next in
            rw (w.buffer-is, w.next-is) (one_more _ _ put.new.buffer w.in-Some.at name _ put.result (rw w.in-Some.is at so) (rw w.as_slice.ensures.value at put.ensures.next) (rw w.as_slice.ensures.value at put.ensures.full))
        | in-None w ↦ rw (w.buffer-is, w.next-is) (rw w.in-None.is at so)
      ];
  all = grind (arith, common_steps);
}

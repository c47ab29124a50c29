use Rattle.std.proofs.Common.{◌≡◌, refl, to_z-of_z, SFits, w32, rules}
use Rattle.dc_c.specs.Shapes.{ShowsCount}
use Rattle.dc_c.proofs.Answering.{called, as_told}
use Rattle.dc_c.proofs.passes.gb_rows_in_use.Goals as goal

pub returns : goal.returns
returns c =
    let fits : SFits w32 c.tell_count.result = search rules in
    let hold = c.in-Some.hold.value in let count = c.rows_in_use-count.result in
    record {
      counts = called (λ p q count. q ≡ p) ShowsCount c.args.pass.now c.put.new.self _ c.args.rows.now c.tell_count.new.written
          hold hold hold count c.in-Some.ensures.taken refl c.put.ensures refl
          (as_told (λ n. ShowsCount count n c.tell_count.new.written) (to_z-of_z fits) c.tell_count.ensures);
    }

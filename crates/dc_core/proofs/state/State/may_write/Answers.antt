use Rattle.std.proofs.Common.{◌≡◌, ◌≤◌, ◌⊎◌, refl, sym, ap, ◌∙◌}
use Rattle.dc_names.specs.declared.limits.TheConstants.{ROW_WORDS}
use Rattle.dc_core.specs.Machine.{Actor}
use Rattle.dc_core.specs.Shown.{state_of}
use Rattle.dc_core.proofs.Acted.{this_one}
use Rattle.dc_core.proofs.Tests.{seat, seated, room_if, has_field, eq_false, no_word, write_last}
use Rattle.dc_core.proofs.state.State.may_write.Goals.{then-word-eq0, else-word-eq0}
use Rattle.dc_core.proofs.state.State.may_write.Goals as goal

pub returns : goal.returns
returns c = let s = c.args.self.now in let us = s.actors.items in let j = c.args.actor in let row = c.args.row in
    let less = seat us j c.len.result (c.len.ensures ∙ s.actors.ok.0) c.in_ok-refuse.ensures in let before = this_one us j c.index.result.now less c.index.ensures in
    let holds = has_field c.index.result.now.holds _ (ap (λ (a : Actor). a.holds) before) c.in_ok-refuse-2.ensures in
    let word = c.args.word in let off = c.in_ok-refuse-4.ensures in
    let fits : (word ≡ 0) ⊎ (ROW_WORDS ≤ word) → ⊥ = elim c.if-word-eq0.branch [ then-word-eq0 w ↦ absurd (eq_false word 0 word refl (sym w.refuse-is ∙ off) w.if-word-eq0.true) | else-word-eq0 w ↦ no_word word c.if-word-eq0.refuse off w.if-word-eq0.false w.refuse-is ] in
    write_last (state_of s) j row (seated us j less) holds (room_if s.rows row c.in_ok-refuse-3.ensures) word c.args.value c.count.result c.refuse-5.result fits c.count.ensures c.refuse-5.ensures

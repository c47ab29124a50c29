use Rattle.std.proofs.Common.{refl, ap, ◌∙◌, rules}
use Rattle.dc_core.specs.Machine.{Actor, event_by}
use Rattle.dc_core.specs.Machine.Act.{Note}
use Rattle.dc_core.specs.Refusals.Refusal.{NoRow}
use Rattle.dc_core.specs.Shown.{state_of}
use Rattle.dc_core.specs.declared.refused.Refused.TheVariants as refusals
use Rattle.dc_core.proofs.Tests.{Walks, walks, room_if, has_not, refused_for, note_lost, note_last}
use Rattle.dc_core.proofs.state.State.may_note.Goals.{After-is_some}
use Rattle.dc_core.proofs.state.State.may_note.Goals as goal

found : (c : After-is_some) → Walks c.args.self.now c.args.actor c.index-walker.result.now
found c = walks c.args.self.now c.args.actor c.len.result c.index-walker.result.now c.is_none.result (c.len.ensures ∙ c.args.self.now.actors.ok.0) c.in_ok-refuse.ensures c.index-walker.ensures c.is_none.ensures c.in_ok-refuse-2.ensures

pub returns-in_err-refuse-4 : goal.returns-in_err-refuse-4
returns-in_err-refuse-4 c = let s = state_of c.args.self.now in let j = c.args.actor in let w = found (goal.at.returns-in_err-refuse-4 c).After-is_some in
    let early = has_not _ _ c.is_some.result (ap (λ (a : Actor). a.walk.pivoted) w.is) c.is_some.ensures c.in_ok-refuse-3.ensures in
    refused_for s (event_by j (Note c.args.row)) c.from_residual-in_err-refuse-4.result refusals.NoRow NoRow (search rules) refl (note_lost s j w.there w.busy c.args.row early (search rules))

pub returns : goal.returns
returns c = let s = state_of c.args.self.now in let w = found (goal.at.returns c).After-is_some in
    let early = has_not _ _ c.is_some.result (ap (λ (a : Actor). a.walk.pivoted) w.is) c.is_some.ensures c.in_ok-refuse-3.ensures in
    note_last s c.args.actor w.there w.busy c.args.row c.count.result c.refuse-5.result early (room_if s.rows c.args.row c.in_ok-refuse-4.ensures) c.count.ensures c.refuse-5.ensures

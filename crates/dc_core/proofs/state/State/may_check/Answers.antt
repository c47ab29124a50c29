use Rattle.std.proofs.Common.{◌∙◌, rules}
use Rattle.dc_core.proofs.Acted.{note_room, not_past}
use Rattle.dc_core.proofs.Tests.{Walks, walks}
use Rattle.dc_core.proofs.Checks.{check_lost, check_last}
use Rattle.dc_core.proofs.state.State.may_check.Goals.{After-is_uncheckable}
use Rattle.dc_core.proofs.state.State.may_check.Goals as goal

found : (c : After-is_uncheckable) → Walks c.args.self.now c.args.actor c.index-one.result.now
found c = walks c.args.self.now c.args.actor c.len.result c.index-one.result.now c.is_none.result (c.len.ensures ∙ c.args.self.now.actors.ok.0) c.in_ok-refuse.ensures c.index-one.ensures c.is_none.ensures c.in_ok-refuse-2.ensures

pub count-found-requires-clause-room : goal.count-found-requires-clause-room
count-found-requires-clause-room c =
    let less = not_past c.index-one.result.now c.args.i c.is_uncheckable.result c.in_ok-refuse-4.ensures c.is_uncheckable.ensures in
    (note_room c.args.self.now c.requires c.args.actor c.args.i c.index-one.result.now c.index-note.result.now (search rules) c.index-one.ensures less c.index-note.ensures).0

pub returns-in_err-refuse-4 : goal.returns-in_err-refuse-4
returns-in_err-refuse-4 c = check_lost c.args.self.now c.args.actor c.args.i c.index-one.result.now (found (goal.at.returns-in_err-refuse-4 c).After-is_uncheckable) c.is_none-2.result c.is_uncheckable.result
    c.is_none-2.ensures c.in_ok-refuse-3.ensures c.is_uncheckable.ensures c.from_residual-in_err-refuse-4.result (search rules) c.in_err-refuse-4.ensures.0

pub returns : goal.returns
returns c = check_last c.args.self.now c.args.actor c.args.i c.index-one.result.now (found (goal.at.returns c).After-is_uncheckable) c.is_none-2.result c.is_uncheckable.result
    c.is_none-2.ensures c.in_ok-refuse-3.ensures c.is_uncheckable.ensures c.index-note.result.now c.count-found.result c.count.result c.count-2.result c.refuse-5.result
    c.in_ok-refuse-4.ensures c.index-note.ensures c.count-found.ensures c.count.ensures c.count-2.ensures c.refuse-5.ensures

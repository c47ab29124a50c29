use Rattle.std.proofs.Common.{ap, ◌∙◌}
use Rattle.dc_core.specs.Machine.{Actor}
use Rattle.dc_core.specs.Refusals.{Unless, IsEven, Passes}
use Rattle.dc_core.specs.Refusals.Refusal.{Even}
use Rattle.dc_core.specs.Shown.{state_of}
use Rattle.dc_core.proofs.Acted.{this_one}
use Rattle.dc_core.proofs.Tests.{seat, seated, room_if, has_field, held_tested, even_tested}
use Rattle.dc_core.proofs.state.State.at_odd_row.Goals as goal

pub returns-clause-tests : goal.returns-clause-tests
returns-clause-tests c = let s = c.args.self.now in let us = s.actors.items in let j = c.args.actor in let row = c.args.row in
    let less = seat us j c.len.result (c.len.ensures ∙ s.actors.ok.0) c.in_ok-refuse.ensures in let before = this_one us j c.index.result.now less c.index.ensures in
    let holds = has_field c.index.result.now.holds _ (ap (λ (a : Actor). a.holds) before) c.in_ok-refuse-2.ensures in
    let room = room_if s.rows row c.in_ok-refuse-3.ensures in
    held_tested (state_of s) j row (seated us j less) holds room (Unless (IsEven (state_of s) row) Even Passes) ⊥ c.refuse-4.result (even_tested (state_of s) j row (seated us j less) holds room ⊥ c.count.result c.refuse-4.result c.count.ensures c.refuse-4.ensures)

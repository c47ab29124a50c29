use Rattle.std.proofs.Common.{ap, ◌∙◌}
use Rattle.dc_core.specs.Machine.{Actor}
use Rattle.dc_core.specs.Shown.{state_of}
use Rattle.dc_core.proofs.Acted.{this_one}
use Rattle.dc_core.proofs.Tests.{seat, seated, room_if, has_field, shut_last}
use Rattle.dc_core.proofs.state.State.may_shut.Goals as goal

pub returns : goal.returns
returns c = let s = c.args.self.now in let us = s.actors.items in let j = c.args.actor in let row = c.args.row in
    let less = seat us j c.len.result (c.len.ensures ∙ s.actors.ok.0) c.in_ok-refuse.ensures in let before = this_one us j c.index.result.now less c.index.ensures in
    let holds = has_field c.index.result.now.holds _ (ap (λ (a : Actor). a.holds) before) c.in_ok-refuse-2.ensures in
    shut_last (state_of s) j row (seated us j less) holds (room_if s.rows row c.in_ok-refuse-3.ensures) c.count-count.result c.refuse-5.result c.count-count.ensures c.in_ok-refuse-4.ensures c.refuse-5.ensures

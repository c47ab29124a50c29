use Rattle.std.proofs.Common.{◌≤◌, length, rules, arith}
use Rattle.dc_check.proofs.PhaseOrder.{in_phases, keeps_past}
use Rattle.dc_check.proofs.phases.first_reached.Goals as goal

pub returns : goal.returns
returns c =
    let both = in_phases c.args.marks.now c.requires in
    let over : length c.args.marks.now ≤ c.loop-mark.mark-index = search (rules, arith) in (
      λ none. both.0 (c.loop-mark.invariant.on none (keeps_past _ _ _ c.args.marks.now c.loop-mark.mark-index over)),
      λ is. (c.loop-mark.invariant.back (both.1 is)).0,
    )

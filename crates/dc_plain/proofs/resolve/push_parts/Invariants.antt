use Rattle.std.proofs.Common.{◌≡◌, ◌++◌, map, length}
use Rattle.dc_names.specs.Names.{part_shown}
use Rattle.dc_plain.specs.Walks.{stacked}
use Rattle.dc_plain.proofs.resolve.push_parts.Given as goal

-- what is left comes before what is on the stack
abbrev pub invariant-left : goal.invariant-left
invariant-left l =
    map part_shown l.left.items ++ stacked l.rest.items ≡ map part_shown l.initial.left.items ++ stacked l.fn.rest.items

abbrev pub decreases-left : goal.decreases-left
decreases-left l = length l.left.items

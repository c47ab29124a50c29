use Rattle.std.proofs.Common.{◌≡◌, ℕ, List, Bool, Option, length}
use Rattle.dc_names.specs.Paths.{Part}
use Rattle.dc_plain.specs.Facts.{Target}
use Rattle.dc_plain.specs.Resolution.{Outcome, over_parts}
use Rattle.dc_plain.specs.Walks.{stacked}
use Rattle.dc_plain.proofs.resolve.walk_parts.Given as goal

-- what is left leads where all of it leads
abbrev pub invariant-parts : goal.invariant-parts
invariant-parts g l = (follow_link : Target → ℕ → List Part → Bool → Option Outcome) →
    over_parts (g.T.Told.teller l.told) l.follow follow_link l.place (stacked l.rest.items) l.slash
    ≡ over_parts (g.T.Told.teller l.told) l.follow follow_link l.fn.start (stacked l.initial.rest.items) l.slash

abbrev pub decreases-parts : goal.decreases-parts
decreases-parts g l = length l.rest.items

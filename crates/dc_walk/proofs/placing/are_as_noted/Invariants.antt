use Rattle.std.proofs.Common.{ℕ, ◌<◌}
use Rattle.dc_rows.specs.Guards.{kept_by, IsStill}
use Rattle.dc_walk.proofs.Fronts.{IsTrueAt}
use Rattle.dc_walk.proofs.placing.are_as_noted.Given as goal

abbrev pub invariant-loop-c : goal.invariant-loop-c
invariant-loop-c l = record {
  still : IsStill l.fn.guard l.guard;
  told : (j : ℕ) → j < l.c → IsTrueAt (kept_by l.fn.guard).store l.fn.room j;
}

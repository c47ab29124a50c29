-- The last tests of a commit.
use Rattle.std.proofs.Common.{◌≡◌, ℕ, Bool, not, false, Option, Some, None, option_map, refl, inl, inr}
use Rattle.dc_plain.specs.Requests.{Request}
use Rattle.dc_plain.specs.Runs.{alters}
use Rattle.dc_events.specs.Rows.{most}
use Rattle.dc_core.specs.Machine.{State, clock_of}
use Rattle.dc_core.specs.Refusals.{FirstRow, IsTouched, MayBeMade}
use Rattle.dc_core.specs.Refusals.Refusal.{Touched}
use Rattle.dc_core.proofs.Stepped.{alters_on}

-- the call alters the tree, the clock isn't at its end, and the first touched row, if there is one, is known
pub after_rows : (s : State) (call : Request) (o : Option ℕ) (b : Bool) → b ≡ alters s.limit s.tree call → not b ≡ false → (clock_of s ≡ most → ⊥) → FirstRow s.rows (IsTouched s call) o → MayBeMade s call (option_map Touched o)
after_rows s call (Some row) b is so early first = inr (alters_on b (alters s.limit s.tree call) is so, inr (early, inl (row, first.0, first.1, first.2, refl)))
after_rows s call None b is so early none = inr (alters_on b (alters s.limit s.tree call) is so, inr (early, inr (none, refl)))

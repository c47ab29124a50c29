-- What a function for C does: the call of its name, on the hold that its handle has.
use Rattle.std.specs.Prelude.{◌≡◌, ℤ, [], ◌∷◌}
use Rattle.dc_cache.specs.declared.cache.Pass.{Pass}
use Rattle.dc_hold.specs.Numbers.{status_number}
use Rattle.dc_hold.specs.declared.hold.Hold.{Hold}
use Rattle.dc_hold.specs.declared.status.Status.{Status}
use Rattle.dc_hold.specs.declared.status.Status.TheVariants as statuses
use Rattle.dc_hold.specs.declared.told.Found.{Found}
use Rattle.dc_hold.specs.declared.told.Told.{Told}
use Rattle.dc_c.specs.Holding.{OnHold}
use Rattle.dc_c.specs.declared.handle.Handle.{Handle}

-- the number that is answered, and what is written of what was found
pub record Shows (told : Told) (number : ℤ) (found : Found) : Type 0 where
  pub status : number ≡ status_number told.status
  pub written : found ≡ told.found

-- nothing was done, and the number says why
pub record Refuses (O : Type 0) (status : Status) (old new : Handle) (number : ℤ) (before written : O) : Type 0 where
  pub same : new.held.holds ≡ old.held.holds
  pub why : number ≡ status_number status
  pub unwritten : written ≡ before

-- a hold was called, and its handle has it again: the call may come to this answer from the pass before to the pass after, and its numbers are written
pub record Calls (A O : Type 0) (May : Pass → Pass → A → Type 0) (Tells : A → ℤ → O → Type 0) (hold : Hold) (new : Handle) (number : ℤ) (written : O) : Type 0 where
  pub called : Hold
  pub back : new.held.holds ≡ called ∷ []
  pub answer : A
  pub allowed : May hold.pass called.pass answer
  pub told : Tells answer number written

-- a blank handle is refused, and the hold of an open one is called
abbrev pub Answers : (A O : Type 0) → (Pass → Pass → A → Type 0) → (A → ℤ → O → Type 0) → Handle → Handle → ℤ → O → O → Type 0
Answers A O May Tells old new number before written =
    OnHold old.held.holds (Refuses O statuses.BadPass old new number before written) (λ hold. Calls A O May Tells hold new number written)

-- What came of an event.
use Rattle.std.specs.Prelude.{◌≡◌, Bool, true, false}

-- it may happen, and then has; or it may not, and all is as it was
pub record Outcome {S : Type 0} (result : Bool) (May : Type 0) (old next new : S) : Type 0 where
  pub made : result ≡ true → May × (new ≡ next)
  pub refused : result ≡ false → (May → ⊥) × (new ≡ old)

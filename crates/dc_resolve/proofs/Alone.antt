-- A walk that has nothing to ask.
use Rattle.std.proofs.Common.{◌≡◌, ℕ, [], Option, Some, None, IsSome, refl}
use Rattle.dc_plain.specs.Facts.{Label, told_by}
use Rattle.dc_plain.specs.Facts.Label.{Entry, Parent, Text}
use Rattle.dc_resolve.specs.Needs.{IsUntold}

pub untold : (n : ℕ) (label : Label) → IsUntold (told_by []) n label
untold n (Entry name) = refl
untold n Parent = refl
untold n Text = refl

pub never : {A : Type 0} (o : Option A) → IsSome o → o ≡ None → ⊥
never None some is = absurd (cc)
never (Some a) some is = cc

-- What a call makes of the use of each row.
use Rattle.std.specs.Prelude.{◌≡◌, ◌≢◌, ℕ, Bool, false}
use Rattle.dc_shrink.specs.Listings.{Listing, is_used}

-- no row is in use
abbrev pub UsesNone : Listing → Type 0
UsesNone s = (row : ℕ) → is_used s row ≡ false

-- the same rows are in use as before
abbrev pub KeepsUse : Listing → Listing → Type 0
KeepsUse was s = (row : ℕ) → is_used s row ≡ is_used was row

-- one row is in use, or isn't, and the other rows are in use as before
pub record SetsUse (row : ℕ) (used : Bool) (was s : Listing) : Type 0 where
  pub here : is_used s row ≡ used
  pub others : (r : ℕ) → r ≢ row → is_used s r ≡ is_used was r

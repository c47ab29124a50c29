-- What becomes of a row as its pins change.
use Rattle.std.proofs.Common.{◌≡◌, ℕ, ◌<◌, true, false, Result, Ok, Err, OnErr, sym, ◌∙◌, subst}
use Rattle.std.specs.FinMap as map
use Rattle.dc_shrink.specs.Listings.{Listing, listing, dropped, pins_of, IsListing}
use Rattle.dc_shrink.specs.Uses.{KeepsUse, SetsUse}
use Rattle.dc_shrink.proofs.Steps.{dropped_pinned}
use Rattle.dc_shrink.proofs.Uses.{kept, set_again, used_if_pinned}

-- what holds anyway holds if it fails
pub on_err : {T E P : Type 0} (r : Result T E) → P → OnErr r P
on_err (Ok x) h = tt
on_err (Err e) h = h

module _ (s : Listing) (row : ℕ) (pinned : 0 < pins_of s row) {out : Listing} where
  -- a pinned row that is taken out was not in the list
  pub out_as : IsListing s → out ≡ dropped s row → out ≡ listing s.rows s.listed (map.remove s.pins row)
  out_as is gone = gone ∙ dropped_pinned s is row pinned

  -- listed again it is in use as before
  pub listed_again : SetsUse row false s out → {now : Listing} → SetsUse row true out now → KeepsUse s now
  listed_again unused used = kept row s _ (used_if_pinned s row pinned) (set_again unused used)

  -- and not listed it is in use no more
  pub left_out : SetsUse row false s out → {now : Listing} → now ≡ out → SetsUse row false s now
  left_out unused same = subst (SetsUse row false s) (sym same) unused

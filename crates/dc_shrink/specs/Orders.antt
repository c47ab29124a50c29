-- The order of the rows within each bucket.
use Rattle.std.specs.Prelude.{◌≡◌, ℕ, if◌then◌else◌, ◌+◌, ◌*◌, ◌<◌, ◌≤◌, ◌/◌, List, [], ◌∷◌, length, filter, slice_index_or, slice_set, nat_eq}
use Rattle.dc_names.specs.declared.limits.TheConstants.{BUCKET_ROWS}
use Rattle.dc_shrink.specs.Listings.{Listing, IsListing, is_in, in_bucket, without}

-- the rows of a bucket
abbrev pub four_rows : ℕ → List ℕ
four_rows bucket = (BUCKET_ROWS * bucket) ∷ (BUCKET_ROWS * bucket + 1) ∷ (BUCKET_ROWS * bucket + 2) ∷ (BUCKET_ROWS * bucket + 3) ∷ []

-- the rows of one bucket: each stands there once, and those in a list stand as in that list
pub record IsOrder (bucket : ℕ) (listed rows : List ℕ) : Type 0 where
  pub once : (row : ℕ) → length (filter (nat_eq row) rows) ≡ (if in_bucket bucket row then 1 else 0)
  pub as_listed : filter (is_in listed) rows ≡ filter (in_bucket bucket) listed

-- that each bucket's rows have that order, and that there are buckets enough
pub record AreOrders (rows : ℕ) (listed : List ℕ) (buckets : List (List ℕ)) : Type 0 where
  pub enough : rows ≤ BUCKET_ROWS * length buckets
  pub each : (bucket : ℕ) → bucket < length buckets → IsOrder bucket listed (slice_index_or buckets bucket [])

-- a row put first in its bucket
abbrev pub promoted_in : List (List ℕ) → ℕ → List (List ℕ)
promoted_in buckets row = slice_set buckets (row / BUCKET_ROWS) (row ∷ without row (slice_index_or buckets (row / BUCKET_ROWS) []))

-- what holds of the rows in use and of the buckets that know their order
abbrev pub IsKept : Listing → List (List ℕ) → Type 0
IsKept s buckets = IsListing s × AreOrders s.rows s.listed buckets

-- The unpinned rows by last use, and the pins of the others.
use Rattle.std.specs.Prelude.{◌≡◌, ℕ, ◌+◌, ◌-◌, ◌==◌, if◌then◌else◌, ◌/◌, ◌<◌, ◌≤◌, Bool, true, not, ◌||◌, List, ◌∷◌, length, slice_get, filter, is_some, nat_eq, Option, None, IfSome, refl}
use Rattle.std.specs.List.{list_any, IsDistinct}
use Rattle.std.specs.Option.{unwrap_or}
use Rattle.std.specs.Ordering.{nat_cmp}
use Rattle.std.specs.Coded.{Coded, code_by, coded×, coded_list, coded_ℕ}
use Rattle.std.specs.FinMap as map
use Rattle.dc_names.specs.declared.limits.TheConstants.{BUCKET_ROWS, MOST_COUNT}

-- how many rows there are, the unpinned ones in use with the most recently used first, and the pins of the pinned ones
pub record Listing : Type 0 where
  pub rows : ℕ
  pub listed : List ℕ
  pub pins : map.FinMap nat_cmp ℕ

abbrev pub listing : ℕ → List ℕ → map.FinMap nat_cmp ℕ → Listing
listing n rows pins = record { rows = n; listed = rows; pins = pins }

abbrev pub listing_code : Coded Listing
listing_code =
    code_by (ℕ × (List ℕ × map.FinMap nat_cmp ℕ)) (coded× coded_ℕ (coded× (coded_list coded_ℕ) (map.code coded_ℕ coded_ℕ)))
    (λ s. (s.rows, (s.listed, s.pins))) (λ p. listing p.0 p.1.0 p.1.1) (λ _. refl)

abbrev pub is_in : List ℕ → ℕ → Bool
is_in rows row = list_any (nat_eq row) rows

abbrev pub without : ℕ → List ℕ → List ℕ
without row rows = filter (λ r. not (nat_eq row r)) rows

-- the least recently used of a list
abbrev pub last_of : List ℕ → Option ℕ
last_of rows = slice_get rows (length rows - 1)

abbrev pub in_bucket : ℕ → ℕ → Bool
in_bucket bucket row = nat_eq (row / BUCKET_ROWS) bucket

abbrev pub pins_of : Listing → ℕ → ℕ
pins_of s row = unwrap_or (map.get s.pins row) 0

-- whether a row is in use
abbrev pub is_used : Listing → ℕ → Bool
is_used s row = is_in s.listed row || is_some (map.get s.pins row)

-- a row that is neither listed nor pinned put first in the list, and a listed one
abbrev pub added : Listing → ℕ → Listing
added s row = listing s.rows (row ∷ s.listed) s.pins

abbrev pub touched : Listing → ℕ → Listing
touched s row = listing s.rows (row ∷ without row s.listed) s.pins

-- with this many pins, and so out of the list
abbrev pub with_pins : Listing → ℕ → ℕ → Listing
with_pins s row pins = listing s.rows (without row s.listed) (map.insert s.pins row pins)

abbrev pub pinned_once : Listing → ℕ → Listing
pinned_once s row = with_pins s row (pins_of s row + 1)

-- out of use
abbrev pub dropped : Listing → ℕ → Listing
dropped s row = listing s.rows (without row s.listed) (map.remove s.pins row)

-- one pin less; without a pin left, the first of the list
abbrev pub unpinned_once : Listing → ℕ → Listing
unpinned_once s row =
    if pins_of s row == 1
    then listing s.rows (row ∷ s.listed) (map.remove s.pins row)
    else with_pins s row (pins_of s row - 1)

-- the rows in the list differ, none of them is pinned, and each pinned row has a pin at least
pub record IsListing (s : Listing) : Type 0 where
  pub distinct : IsDistinct nat_eq s.listed
  pub apart : (row : ℕ) → is_in s.listed row ≡ true → map.get s.pins row ≡ None
  pub pinned : (row : ℕ) → IfSome (map.get s.pins row) (λ pins. (1 ≤ pins) × (pins ≤ MOST_COUNT))
  pub within : (row : ℕ) → is_used s row ≡ true → row < s.rows

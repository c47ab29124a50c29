-- Why a finder over rows gave up.
use Rattle.std.specs.Prelude.{◌≡◌, ◌≢◌, ℕ, ◌+◌, ◌<◌, List, Option, IfSome, IfNone, length}
use Rattle.std.specs.List.{Contains}
use Rattle.dc_plain.specs.Facts.{Key, Teller}
use Rattle.dc_plain.specs.Facts.Label.{Text}
use Rattle.dc_plain.specs.Resolution.{Outcome}
use Rattle.dc_events.specs.Views.{View}
use Rattle.dc_events.specs.Views.Fault.{Busy, Changed}
use Rattle.dc_walk.specs.Uses.{Use, HasUsed}
use Rattle.dc_walk.specs.Asking.{IsOther, Asks, IsMissing, first_row}
use Rattle.dc_names.specs.declared.limits.TheConstants.{BUCKET_ROWS, MOST_USED}
use Rattle.dc_walk.specs.declared.why.Why as rust_why
use Rattle.dc_walk.specs.declared.why.Why.TheVariants as whys

-- the first row that was odd, if one was; else no row has the key
pub record Looked (v : View) (first : ℕ) (key : Key) (odd : Option ℕ) (k : ℕ) : Type 0 where
  pub odd_row : IfSome odd (λ row. Contains v.faults (Busy row))
  pub others : IfNone odd ((j : ℕ) → j < k → IsOther v (first + j) key)

-- as many questions were answered as rows can be used
pub record IsFull (outcome : Teller → Option Outcome) (v : View) : Type 0 where
  pub uses : List Use
  pub used : HasUsed outcome v.walk.notes uses
  pub many : length uses ≡ MOST_USED

abbrev pub HasCause : (Teller → Option Outcome) → ℕ → View → rust_why.Why → Type 0
HasCause outcome buckets v (whys.Miss n) = (key : Key) × (key.label ≢ Text) × (is : IsMissing outcome buckets v key) × (length is.asks.uses ≡ n)
HasCause outcome buckets v (whys.Busy row) = Contains v.faults (Busy row)
HasCause outcome buckets v (whys.Changed row noted found) = Contains v.faults (Changed row noted found) × (noted < found)
HasCause outcome buckets v whys.Long = IsFull outcome v
HasCause outcome buckets v whys.Link = (key : Key) × (key.label ≡ Text) × IsMissing outcome buckets v key
HasCause outcome buckets v whys.Memory = ⊥

-- if the rows of the bucket of a key that is asked for after this many questions were looked at, this is the cause
abbrev pub TellsWhy : Option ℕ → Key → ℕ → rust_why.Why → Type 0
TellsWhy odd key answered why = (outcome : Teller → Option Outcome) (buckets : ℕ) (v : View) → Looked v (first_row buckets key) key odd BUCKET_ROWS → (asks : Asks outcome v key) → length asks.uses ≡ answered → HasCause outcome buckets v why

-- What a look at one row finds, and at the rows of a bucket.
use Rattle.std.specs.Prelude.{◌≡◌, Bool, false, ℕ, ◌+◌, ◌<◌, ◌≤◌, [], ◌∷◌, ◌++◌, Option}
use Rattle.std.specs.List.{Contains}
use Rattle.dc_plain.specs.Facts.{Key}
use Rattle.dc_events.specs.Views.{View}
use Rattle.dc_events.specs.Views.Fault.{Busy}
use Rattle.dc_walk.specs.Uses.{Use}
use Rattle.dc_walk.specs.Asking.{IsOther}
use Rattle.dc_walk.specs.Causes.{Looked}
use Rattle.dc_walk.specs.Finds.{StandsAt}
use Rattle.dc_walk.specs.Findings.{IsFinding, now_in, uses_in, spent}
use Rattle.dc_walk.specs.Rooms.{key_bytes, Keeps}
use Rattle.dc_names.specs.declared.limits.TheConstants.{BUCKET_ROWS}
use Rattle.dc_walk.specs.declared.rows.Rows.{Rows}
use Rattle.dc_walk.specs.declared.source.Lane.{Lane}
use Rattle.dc_walk.specs.declared.probe.Extent as rust_extent
use Rattle.dc_walk.specs.declared.probe.Extent.TheVariants as extents
use Rattle.dc_walk.specs.declared.row.Seen as rust_seen
use Rattle.dc_walk.specs.declared.row.Seen.TheVariants as sights

module _ (f : Rows) (key : Key) (g : Rows) where
  -- nothing new is used, and this many rows were looked at
  pub record Fails (k : ℕ) : Type 0 where
    pub finding : IsFinding g k
    pub used : g.used.now.items ≡ f.used.now.items
    pub spent : g.used.now.spent ≡ f.used.now.spent

  -- this row tells of the key and is used, as the last, after this many looks that found none
  pub record Answers (row earlier at : ℕ) : Type 0 where
    pub finding : IsFinding g earlier
    pub standing : StandsAt g.used.now.items key at
    pub use_of : Use
    pub uses : uses_in g ≡ uses_in f ++ use_of ∷ []
    pub of_row : use_of.row ≡ row
    pub keeps : Keeps f.used.now g.used.now (key_bytes key.label)

  -- a row of the lane does
  pub record AnswersIn (lane : Lane) (earlier at : ℕ) : Type 0 where
    pub place : ℕ
    pub within : place < lane.len
    pub answers : Answers (lane.first + place) earlier at

  -- of a row that was read whole it is known that it tells of another key, or of none
  abbrev pub Saw : ℕ → rust_extent.Extent → ℕ → ℕ → rust_seen.Seen → Type 0
  Saw row extent earlier k sights.Odd = Fails (earlier + k) × Contains (now_in g).faults (Busy row)
  Saw row extent earlier k sights.Other = Fails (earlier + k) × IsOther (now_in g) row key
  Saw row extent earlier k sights.Left = Fails (earlier + k) × (extent ≡ extents.Head)
  Saw row extent earlier k (sights.Tells at) = Answers row earlier at

-- if no row was left after its head, this is what was seen of them
abbrev pub LookedWhole : View → ℕ → Key → Bool → ℕ → Option ℕ → Type 0
LookedWhole v first key left k odd = left ≡ false → Looked v first key odd k

-- nothing new is used, and no more rows were looked at than two looks take
pub record GivesUp (f g : Rows) : Type 0 where
  pub looks : ℕ
  pub finding : IsFinding g looks
  pub used : g.used.now.items ≡ f.used.now.items
  pub few : spent g + looks ≤ BUCKET_ROWS + BUCKET_ROWS

-- What each step tells its pass. A step cannot read the sizes of the table, so passes name them.
use Rattle.std.specs.Prelude.{◌≡◌, ◌≢◌, ℕ, ◌+◌, ◌<◌, ◌≤◌, List, [], ◌∷◌, length, get_or, Option as Maybe, Some}
use Rattle.atomic_table.specs.Table.{Me, Step}
use Rattle.dc_plain.specs.Requests.{Request}
use Rattle.dc_events.specs.Views.{View}
use Rattle.dc_events.specs.Rows.{most}
use Rattle.dc_events.specs.Effects.{taken, wrote, committed, gave, answered}
use Rattle.dc_table.specs.RowStates.{RowState}
use Rattle.dc_table.specs.Shares.{Known, with_view, tried}
use Rattle.dc_table.specs.Kept.{HomeFits, sheet_of}
use Rattle.dc_table.specs.Boxes.{Boxed}
use Rattle.dc_table.specs.declared.table.Guarded.{Guarded}
use Rattle.dc_table.specs.declared.sheet.Sheet.{Sheet}

abbrev pub Place : Type 0
Place = Me (Maybe Boxed) Sheet

abbrev pub known_at : Place → Known
known_at m = m.0.known

-- the value fits what the holder of the lock knows
abbrev pub Home : Known → Guarded → Type 0
Home k x = HomeFits k.share.limit k.share.rows k.view.hold.words k.view.hold.history x

-- the rows after this history with these words, and with the keys and uses that the value has
abbrev pub rows_as : List Request → List ℕ → Guarded → RowState
rows_as history words x = record { history = history; words = words; slots = x.index; used = x.shrinker }

-- what a pass that gets the lock learns, and how often it has tried by then
pub record Took (k l : Known) (x : Guarded) : Type 0 where
  pub words : List ℕ
  pub history : List Request
  pub tries : ℕ
  pub now : l ≡ record k { view = taken k.view words history; tries = tries; got = rows_as history words x }
  pub tried : k.tries < tries
  pub early : length history ≤ most
  pub later : k.view.book.seen ≤ length history
  pub home : Home l x

-- the lock is tried once, and is got if it was free
abbrev pub took : Step (Maybe Boxed) → Place → ℕ → Place → Type 0
took st m r m' =
    (r ≡ 0 → (x : Boxed) × (m'.1 ≡ (0, Some x) ∷ []) × Took (known_at m) (known_at m') x.value × ((known_at m').tries ≡ (known_at m).tries + 1))
    × (r ≢ 0 → m' ≡ (sheet_of (tried (known_at m)), m.1))

-- the holder's count of a row grows by one
abbrev pub raised : Step (Maybe Boxed) → Place → ℕ → Place → Type 0
raised st m r m' = let k = known_at m in (r ≡ get_or k.view.hold.words st.word 0) × (m' ≡ (sheet_of (with_view k (wrote k.view st.word (r + 1))), m.1))

-- the holder writes another word of a row
abbrev pub put : Step (Maybe Boxed) → Place → ℕ → Place → Type 0
put st m r m' = let k = known_at m in m' ≡ (sheet_of (with_view k (wrote k.view st.word st.first)), m.1)

abbrev pub committed_as : Request → Step (Maybe Boxed) → Place → ℕ → Place → Type 0
committed_as call st m r m' = let k = known_at m in m' ≡ (sheet_of (with_view k (committed k.share.limit k.view call)), m.1)

-- what the holder knows when it has given the lock back with a value
abbrev pub handed : Known → View → Guarded → Known
handed k v x = let left = rows_as k.view.hold.history k.view.hold.words x in record k { view = v; left = left; past = record { got = k.got; left = left } ∷ k.past }

abbrev pub gave_as : Step (Maybe Boxed) → Place → ℕ → Place → Type 0
gave_as st m r m' = let k = known_at m in (x : Boxed) → m.1 ≡ (0, Some x) ∷ [] → m' ≡ (sheet_of (handed k (gave k.view) x.value), [])

abbrev pub answered_as : Request → Step (Maybe Boxed) → Place → ℕ → Place → Type 0
answered_as call st m r m' = let k = known_at m in (x : Boxed) → m.1 ≡ (0, Some x) ∷ [] → m' ≡ (sheet_of (handed k (answered k.share.limit k.view call) x.value), [])

-- What a walk's room has: the rows that answered, and the one that is being read.
use Rattle.std.specs.Prelude.{ℕ, List, [], ◌≡◌, ◌+◌, ◌*◌, ◌<◌, ◌≤◌, length, map, take, get_or, slice_range}
use Rattle.std.proofs.Common.{arith}
use Rattle.dc_plain.specs.Facts.{Label}
use Rattle.dc_plain.specs.Facts.Label.{Entry, Parent, Text}
use Rattle.dc_row.specs.Narrow.{widened}
use Rattle.dc_names.specs.declared.limits.TheConstants.{ROW_WORDS, ROW_TEXT, MOST_USED, MOST_USED_BYTES}
use Rattle.dc_row.specs.declared.layout.TheConstants.{TEXT_START}
use Rattle.dc_walk.specs.declared.TheConstants.{ROOM_WORDS}
use Rattle.dc_walk.specs.declared.used.Stored.{Stored}

-- a row that answered a question: the place of its note among those of the walk, and its words, the count first
pub record Used : Type 0 where
  pub row : ℕ
  pub place : ℕ
  pub words : List ℕ

-- no row
abbrev pub no_use : Used
no_use = record { row = 0; place = 0; words = [] }

-- the row at a place
abbrev pub used_at : List Used → ℕ → Used
used_at used i = get_or used i no_use

-- the rows that were kept, the words of the one behind them, and how many words those that are kept take
pub record Kept : Type 0 where
  pub items : List Used
  pub next : List ℕ
  pub spent : ℕ

abbrev pub no_place : Stored
no_place = record { row = 0; place = 0; start = 0; end = 0 }

abbrev pub stored_at : List Stored → ℕ → Stored
stored_at rows i = get_or rows i no_place

-- a row that is kept, by its first words
abbrev pub used_in : List ℕ → Stored → Used
used_in words s = record { row = s.row; place = s.place; words = widened (slice_range words s.start s.end) }

-- a row's first words stand before these words' end
pub record IsBelow (end : ℕ) (s : Stored) : Type 0 where
  pub head : s.start + TEXT_START ≤ s.end
  pub size : s.end ≤ s.start + ROW_WORDS
  pub within : s.end ≤ end

-- this many places are kept of those that there are, whose words stand before an end, behind which a whole row has room
pub record IsRoom (rows : List Stored) (len : ℕ) (words : List ℕ) (end : ℕ) : Type 0 where
  pub few : len ≤ MOST_USED
  pub many : length rows ≡ MOST_USED
  pub size : length words ≡ ROOM_WORDS
  pub fits : end + ROW_WORDS ≤ ROOM_WORDS
  pub below : (i : ℕ) → i < len → IsBelow end (stored_at rows i)

-- the first rows are kept, and the one behind them is being read
abbrev pub kept_in : List Stored → ℕ → List ℕ → ℕ → Kept
kept_in rows len words end = record { items = map (used_in words) (take len rows); next = slice_range words end (end + ROW_WORDS); spent = end }

-- how many bytes of a walk's names and texts the row of a key has at most
abbrev pub key_bytes : Label → ℕ
key_bytes (Entry name) = length name
key_bytes Parent = 2
key_bytes Text = ROW_TEXT

-- a room has words for rows of this many bytes more
abbrev pub HasWords : Kept → ℕ → Type 0
HasWords r n = 8 * r.spent + n ≤ 40 * length r.items + MOST_USED_BYTES

-- it has a place for one row more, and words for one with this label
pub record HasPlace (r : Kept) (label : Label) : Type 0 where
  pub some : length r.items < MOST_USED
  pub words : HasWords r (key_bytes label)

-- rows of this many bytes at most were kept
abbrev pub Keeps : Kept → Kept → ℕ → Type 0
Keeps r s n = 8 * s.spent + 40 * length r.items ≤ 8 * r.spent + 40 * length s.items + n

pub less_words : (r : Kept) (m n : ℕ) → HasWords r (m + n) → HasWords r n
less_words r m n has = omega arith

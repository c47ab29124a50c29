-- A room whose rows are read and kept.
use Rattle.std.proofs.Common.{◌≡◌, ℕ, zero, suc, ◌+◌, ◌*◌, ◌-◌, ◌<◌, ◌≤◌, List, [], ◌∷◌, ◌++◌, length, length-take-le, map, get_or, set, take, drop, replicate, Bool, true, false, cond, ◌&&◌, ◌==◌, nat_lt, slice_range, Some, None, refl, ap, sym, ◌∙◌, subst, arith}
use Rattle.std.proofs.lemmas.Bool.Decides.{nat_tests}
use Rattle.std.proofs.lemmas.Grind.{common_steps}
use Rattle.std.proofs.Math.Seq.{drop-append_seam, take-append_seam, take-set-lt}
use borrow.Rule.Slice.PartMut.{post_of, put_mid, take_put}
use Rattle.std.proofs.lemmas.List.{get_or_append_left, drop-set-add, drop-take, length-drop, get_or-drop, get_or-map, get_or-take, length-map}
use Rattle.std.proofs.lemmas.Bool.{or_parts}
use Rattle.std.specs.List.{list_any}
use Rattle.dc_names.specs.Bytes.{is_empty, pieces}
use Rattle.dc_names.specs.Paths.{Part, bytes_of, fault_of, is_long}
use Rattle.dc_names.specs.Paths.Part.{Name, Dot, DotDot}
use Rattle.dc_names.specs.declared.limits.TheConstants.{NAME_MAX, PATH_MAX, ROW_WORDS, ROW_TEXT, MOST_USED_BYTES, MOST_USED}
use Rattle.dc_names.specs.declared.fault.TextFault.TheVariants.{Empty, Long, Zero}
use Rattle.dc_plain.specs.Facts.{Fact, Key, Label, key_of}
use Rattle.dc_plain.specs.Facts.Label.{Entry, Parent, Text}
use Rattle.dc_plain.specs.Facts.Fact.{Leads, Reads}
use Rattle.dc_row.specs.Narrow.{told_words, widened, RowsEndInZeros}
use Rattle.dc_row.specs.Spelling.{fields_of, has_room, has_spelling, TellsOf}
use Rattle.dc_resolve.specs.Asked.{label_of}
use Rattle.dc_walk.specs.Rooms.{kept_in, key_bytes, no_place, no_use, stored_at, used_at, used_in, HasPlace, HasWords, IsBelow, IsRoom, Keeps, Kept, Used}
use Rattle.dc_walk.specs.declared.used.Stored.{Stored}

-- with the same rows a room has a place for the same
pub place_still : {r s : Kept} {label : Label} → s.items ≡ r.items → s.spent ≡ r.spent → HasPlace r label → HasPlace s label
place_still items spent has = let many = ap (λ (us : List Used). length us) items in let some = has.some in let words = has.words in record { some = omega arith; words = omega arith }

pub keeps_from : (r s t : Kept) (n : ℕ) → s.items ≡ r.items → s.spent ≡ r.spent → Keeps s t n → Keeps r t n
keeps_from r s t n items spent keeps = let many : length s.items ≡ length r.items = ap (λ (us : List Used). length us) items in omega arith

-- an empty room has words for a walk of a path
pub begins_with_words : (r : Kept) (path : ℕ) → r.items ≡ [] → r.spent ≡ 0 → path ≤ PATH_MAX → HasWords r (2 + path + 40 * (2 * ROW_TEXT))
begins_with_words r path items spent fits = let none : length r.items ≡ 0 = ap (λ (us : List Used). length us) items in omega arith

long_of : (e l z : Bool) → cond e (Some Empty) (cond l (Some Long) (cond z (Some Zero) None)) ≡ None → l ≡ false
long_of true l z none = absurd cc
long_of false true z none = absurd cc
long_of false false z none = refl

pub path_fits : (text : List ℕ) → fault_of text ≡ None → length text ≤ PATH_MAX
path_fits text valid =
    let short = or_parts (nat_lt PATH_MAX (length text)) (list_any (λ piece. nat_lt NAME_MAX (length piece)) (pieces text)) (long_of (is_empty text) (is_long text) (list_any (λ b. b == 0) text) valid) in
    let test = short.0 in grind (arith, nat_tests)

both : (a b : Bool) → (a && b) ≡ true → (a ≡ true) × (b ≡ true)
both true b e = (refl, e)
both false b e = absurd cc

room_for : (text : List ℕ) → has_room text ≡ true → length text ≤ ROW_TEXT
room_for text room = grind (arith, common_steps)

-- the text of a row of a key has no more bytes than are counted for the key
text_size : (fact : Fact) → has_spelling (Some fact) ≡ true → length (fields_of (Some fact)).text ≤ key_bytes (key_of fact).label
text_size (Leads d (Entry name) target) ok = omega arith
text_size (Leads d Parent target) ok = omega arith
text_size (Leads d Text target) ok = absurd cc
text_size (Reads n text) ok = room_for text (both _ _ ok).1

-- nor its words
pub key_size : RowsEndInZeros → (key : Key) {words : List ℕ} → TellsOf words key → 8 * told_words words ≤ 40 + key_bytes key.label
key_size law key {words} tells =
    let size = (law words tells.fact tells.spelled).size in
    let text : length (fields_of (Some tells.fact)).text ≤ key_bytes key.label = subst (λ (k : Key). length (fields_of (Some tells.fact)).text ≤ key_bytes k.label) tells.about (text_size tells.fact tells.spelled.allowed) in
    omega arith

pub has_room_for : {r : Kept} (n spent told : ℕ) (key : Key) → spent ≡ r.spent → told ≡ n → 8 * n ≤ 40 + key_bytes key.label → HasPlace r key.label → 8 * (spent + told) ≤ 40 * MOST_USED + MOST_USED_BYTES
has_room_for n spent told key same is size has = let some = has.some in let words = has.words in omega arith

pub kept_so : (r s : Kept) (key : Key) (n : ℕ) → 8 * n ≤ 40 + key_bytes key.label → length s.items ≡ length r.items + 1 → s.spent ≡ r.spent + n → Keeps r s (key_bytes key.label)
kept_so r s key n size one more = omega arith

-- which bytes a part that is asked for has
pub asked_size : (part : Part) → (part ≡ Dot → ⊥) → key_bytes (label_of part) ≡ length (bytes_of part)
asked_size (Name name) asked = refl
asked_size Dot asked = absurd (asked refl)
asked_size DotDot asked = refl

-- a place of the rows that are kept
pub kept_many : (rows : List Stored) (len : ℕ) (words : List ℕ) → len ≤ length rows → length (map (used_in words) (take len rows)) ≡ len
kept_many rows len words few = length-map (take len rows) (used_in words) ∙ length-take-le len rows few

pub kept_at : (rows : List Stored) (len : ℕ) (words : List ℕ) (at : ℕ) → len ≤ length rows → at < length (map (used_in words) (take len rows)) → used_at (map (used_in words) (take len rows)) at ≡ used_in words (stored_at rows at)
kept_at rows len words at few l =
    let many = kept_many rows len words few in
    let short = length-take-le len rows few in
    get_or-map (used_in words) (take len rows) at no_place no_use (omega arith) ∙ ap (used_in words) (get_or-take len rows at no_place (omega arith))

pub short_take : (n m : ℕ) (xs : List ℕ) → n ≤ m → take n (take m xs) ≡ take n xs
short_take zero m xs le = refl
short_take (suc n) zero xs le = absurd (omega arith)
short_take (suc n) (suc m) [] le = refl
short_take (suc n) (suc m) (x ∷ xs) le = ap (λ (ys : List ℕ). x ∷ ys) (short_take n m xs (omega arith))

-- of words before an end only what stands there matters
range_before : (xs : List ℕ) (end i j : ℕ) → i ≤ j → j ≤ end → slice_range (take end xs) i j ≡ slice_range xs i j
range_before xs end i j le within =
    let all : i + (end - i) ≡ end = omega arith in
    ap (λ (ys : List ℕ). take (j - i) ys) (ap (λ (n : ℕ). drop i (take n xs)) (sym all) ∙ drop-take i (end - i) xs) ∙ short_take (j - i) (end - i) (drop i xs) (omega arith)

same_range : (a b : List ℕ) (end i j : ℕ) → i ≤ j → j ≤ end → take end a ≡ take end b → slice_range a i j ≡ slice_range b i j
same_range a b end i j le within same = sym (range_before a end i j le within) ∙ ap (λ (xs : List ℕ). slice_range xs i j) same ∙ range_before b end i j le within

same_rows : (a b : List ℕ) (end : ℕ) → take end a ≡ take end b → (rows : List Stored) → ((i : ℕ) → i < length rows → IsBelow end (stored_at rows i)) → map (used_in a) rows ≡ map (used_in b) rows
same_rows a b end same [] below = refl
same_rows a b end same (s ∷ rows) below =
    let first = below 0 (omega arith) in let head = first.head in
    let here : used_in a s ≡ used_in b s = ap (λ (ws : List ℕ). record { row = s.row; place = s.place; words = widened ws }) (same_range a b end s.start s.end (omega arith) first.within same) in
    let rest = same_rows a b end same rows (λ i l. below (suc i) (omega arith)) in
    λ i. here i ∷ rest i

module _ {rows : List Stored} {len : ℕ} {words : List ℕ} {end : ℕ} (is : IsRoom rows len words end) where
  pub few_rows : len ≤ length rows
  few_rows = let few = is.few in let many = is.many in omega arith

  below_taken : (i : ℕ) → i < length (take len rows) → IsBelow end (stored_at (take len rows) i)
  below_taken i l =
      let short = length-take-le len rows few_rows in
      let there : i < len = omega arith in
      subst (IsBelow end) (sym (get_or-take len rows i no_place there)) (is.below i there)

  -- other words behind the end leave the rows that are kept
  pub rows_kept : (more : List ℕ) → take end more ≡ take end words → map (used_in more) (take len rows) ≡ map (used_in words) (take len rows)
  rows_kept more same = same_rows more words end same (take len rows) below_taken

-- the words behind the end are those of the row that is being read
pub next_put : (words row : List ℕ) (end k : ℕ) → end ≤ length words → length row ≡ ROW_WORDS → slice_range (put_mid end k words row) end (end + ROW_WORDS) ≡ row
next_put words row end k fits size =
    let front : length (take end words) ≡ end = length-take-le end words fits in
    let many : end + ROW_WORDS - end ≡ length row = omega arith in
    ap (λ (n : ℕ). take n (drop end (put_mid end k words row))) many
    ∙ (ap (λ (n : ℕ). take (length row) (drop n (put_mid end k words row))) (sym front) ∙ (ap (take (length row)) (drop-append_seam (take end words) (row ++ post_of end k words)) ∙ take-append_seam row (post_of end k words)))

-- or they begin with what was put there
pub next_begins : (words row : List ℕ) (end k : ℕ) → end ≤ length words → length row ≤ ROW_WORDS → take (length row) (slice_range (put_mid end k words row) end (end + ROW_WORDS)) ≡ row
next_begins words row end k fits few =
    let front : length (take end words) ≡ end = length-take-le end words fits in
    short_take (length row) (end + ROW_WORDS - end) (drop end (put_mid end k words row)) (omega arith)
    ∙ (ap (λ (n : ℕ). take (length row) (drop n (put_mid end k words row))) (sym front) ∙ (ap (take (length row)) (drop-append_seam (take end words) (row ++ post_of end k words)) ∙ take-append_seam row (post_of end k words)))

-- a word of a row is that of its first words, if these have it
pub first_word : (words : List ℕ) (i : ℕ) → i < length words → get_or (widened words) i 0 ≡ get_or words i 0
first_word words i l = get_or_append_left words (replicate (ROW_WORDS - length words) 0) 0 i l

fact_number : (fact : Fact) → (fields_of (Some fact)).number ≡ (key_of fact).number
fact_number (Leads d label target) = refl
fact_number (Reads n text) = refl

-- a row that tells of a key has the key's number
pub number_of : (words : List ℕ) (key : Key) → 4 ≤ length words → TellsOf (widened words) key → get_or words 2 0 ≡ key.number
number_of words key long tells =
    sym (first_word words 2 (omega arith)) ∙ (tells.spelled.spelled 2 (omega arith) (omega arith) ∙ (fact_number tells.fact ∙ ap (λ (k : Key). k.number) tells.about))

-- so it is by the words that are kept of the row
pub number_so : (words : List ℕ) {whole : List ℕ} {number : ℕ} (key : Key) → 4 ≤ length words → widened words ≡ whole → number ≡ get_or words 2 0 → TellsOf whole key → number ≡ key.number
number_so words key long same is tells = is ∙ number_of words key long (subst (λ (ws : List ℕ). TellsOf ws key) (sym same) tells)

-- a row was read if the room has its words
module _ {rows : List Stored} {len : ℕ} {words : List ℕ} {end : ℕ} (is : IsRoom rows len words end) where
  end_within : end ≤ length words
  end_within = let size = is.size in let fits = is.fits in omega arith

  pub rows_put : (row : List ℕ) (k : ℕ) → map (used_in (put_mid end k words row)) (take len rows) ≡ map (used_in words) (take len rows)
  rows_put row k = rows_kept is (put_mid end k words row) (take_put end k words row end_within)

  pub put_is : (row : List ℕ) (k : ℕ) → length row ≡ ROW_WORDS → slice_range (put_mid end k words row) end (end + ROW_WORDS) ≡ row
  put_is row k size = next_put words row end k end_within size

  pub put_size : (row : List ℕ) (k : ℕ) → length row ≡ ROW_WORDS → length (slice_range (put_mid end k words row) end (end + ROW_WORDS)) ≡ ROW_WORDS
  put_size row k size = ap (λ (ws : List ℕ). length ws) (put_is row k size) ∙ size

-- a row that is kept has a place, and its first four words where they begin
module _ {rows : List Stored} {len : ℕ} {words : List ℕ} {end : ℕ} (is : IsRoom rows len words end) (r : Kept) (same : kept_in rows len words end ≡ r) (at : ℕ) (l : at < length r.items) where
  items_so : map (used_in words) (take len rows) ≡ r.items
  items_so = ap (λ (x : Kept). x.items) same

  kept_there : at < len
  kept_there = let many = ap (λ (us : List Used). length us) items_so in let all = kept_many rows len words (few_rows is) in omega arith

  pub kept_is : used_at r.items at ≡ used_in words (stored_at rows at)
  kept_is =
      let many = ap (λ (us : List Used). length us) items_so in
      ap (λ (us : List Used). used_at us at) (sym items_so) ∙ kept_at rows len words at (few_rows is) (omega arith)

  pub kept_word : (k : ℕ) → k < 4 → get_or (used_at r.items at).words k 0 ≡ get_or words ((stored_at rows at).start + k) 0
  kept_word k few =
      let s = stored_at rows at in let below = is.below at kept_there in let head = below.head in let within = below.within in let fits = is.fits in let size = is.size in
      let n = s.end - s.start in
      let long : length (slice_range words s.start s.end) ≡ n = length-take-le n (drop s.start words) (let left = length-drop s.start words in omega arith) in
      ap (λ (u : Used). get_or u.words k 0) kept_is
      ∙ (first_word (slice_range words s.start s.end) k (omega arith)
      ∙ (get_or-take n (drop s.start words) k 0 (omega arith) ∙ get_or-drop s.start words k 0))

  pub kept_first : get_or words (stored_at rows at).start 0 ≡ get_or (used_at r.items at).words 0 0
  kept_first = let s = stored_at rows at in let same_place : s.start ≡ s.start + 0 = omega arith in ap (λ (n : ℕ). get_or words n 0) same_place ∙ sym (kept_word 0 (omega arith))

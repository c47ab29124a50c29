-- The words of a row, read one after the other.
use Rattle.std.proofs.Common.{◌≡◌, ℕ, zero, suc, ◌+◌, ◌-◌, ◌<◌, ◌≤◌, List, [], ◌∷◌, ◌++◌, true, false, length, get_or, set, take, drop, refl, ap, ap₂, sym, ◌∙◌, subst, arith, length-append, length-set}
use Rattle.std.proofs.Math.Seq.{get_or-append_seam, set-append_seam, take-suc-set, take-length}
use Rattle.std.proofs.lemmas.List.{drop-set-add, get_or-set_same, take-set-le}
use mathlib.Core.Option.{some}
use lib.ListN.{get_elem?}
use Rattle.dc_names.specs.declared.limits.TheConstants.{ROW_WORDS}
use Rattle.dc_events.specs.Views.{View, Note}
use Rattle.dc_events.specs.Effects.{noted, read}
use Rattle.dc_events.specs.Walks.{no_note, extended}
use Rattle.dc_table.specs.Walking.{CanRead}
use Rattle.dc_walk.specs.Probes.{probed, fresh_note, read_of, top_of, HasRead, IsEarly, IsReading}

last_place : (xs : List Note) (x : Note) → length (xs ++ x ∷ []) - 1 ≡ length xs
last_place xs x = let size : length (xs ++ x ∷ []) ≡ length xs + 1 = length-append xs (x ∷ []) in omega arith

last_note : (xs : List Note) (x : Note) → get_or (xs ++ x ∷ []) (length (xs ++ x ∷ []) - 1) no_note ≡ x
last_note xs x = ap (λ (k : ℕ). get_or (xs ++ x ∷ []) k no_note) (last_place xs x) ∙ get_or-append_seam xs x [] no_note

there_at : (xs : List Note) (x : Note) → get_elem? (xs ++ x ∷ []) (length xs) ≡ some x
there_at [] x = refl
there_at (y ∷ ys) x = there_at ys x

module _ (v : View) (row count : ℕ) (words : List ℕ) where
  can_read_so : v.walk.busy ≡ true → v.walk.pivoted ≡ false → (i : ℕ) → length words + 1 ≡ i → i < ROW_WORDS → CanRead (probed v row count words) row i
  can_read_so busy fresh i next inside =
      let x = fresh_note row count words in let xs = v.walk.notes in record {
        busy = busy;
        fresh = fresh;
        there = ap (get_elem? (xs ++ x ∷ [])) (last_place xs x) ∙ there_at xs x ∙ ap some (sym (last_note xs x));
        of_row = ap (λ (n : Note). n.row) (last_note xs x);
        next = ap (λ (n : Note). length n.words + 1) (last_note xs x) ∙ next;
        inside = inside;
      }

  read_so : (w : ℕ) → read (probed v row count words) w ≡ probed v row count (words ++ w ∷ [])
  read_so w =
      let x = fresh_note row count words in let xs = v.walk.notes in
      let size : length (words ++ w ∷ []) ≡ length words + 1 = length-append words (w ∷ []) in
      let loads : v.loads + (1 + length words) + 1 ≡ v.loads + (1 + length (words ++ w ∷ [])) = omega arith in
      let notes : set (xs ++ x ∷ []) (length (xs ++ x ∷ []) - 1) (extended (get_or (xs ++ x ∷ []) (length (xs ++ x ∷ []) - 1) no_note) w) ≡ xs ++ fresh_note row count (words ++ w ∷ []) ∷ []
      = ap₂ (λ (k : ℕ) (n : Note). set (xs ++ x ∷ []) k (extended n w)) (last_place xs x) (last_note xs x) ∙ set-append_seam xs x [] (fresh_note row count (words ++ w ∷ [])) in
      λ i. record v { walk = record v.walk { notes = notes i }; loads = loads i }

kept_first : (words : List ℕ) (i w : ℕ) → 0 < i → get_or (set words i w) 0 0 ≡ get_or words 0 0
kept_first [] zero w l = absurd (omega arith)
kept_first [] (suc i) w l = refl
kept_first (x ∷ xs) zero w l = absurd (omega arith)
kept_first (x ∷ xs) (suc i) w l = refl

dropped : (words : List ℕ) → length (drop 1 words) ≡ length words - 1
dropped [] = refl
dropped (x ∷ xs) = let is : length xs ≡ suc (length xs) - 1 = omega arith in is

one_more : (words : List ℕ) (k w : ℕ) → k < length (drop 1 words) → take (suc k) (drop 1 (set words (1 + k) w)) ≡ take k (drop 1 words) ++ w ∷ []
one_more words k w l = ap (take (suc k)) (drop-set-add 1 words k w) ∙ take-suc-set (drop 1 words) k w l

read_more : (words : List ℕ) (i w : ℕ) → 0 < i → i < length words → read_of (set words i w) (i + 1) ≡ read_of words i ++ w ∷ []
read_more words zero w early l = absurd (omega arith)
read_more words (suc k) w early l =
    let size = dropped words in
    let place : suc k + 1 - 1 ≡ suc k = omega arith in
    let after : 1 + k ≡ suc k = omega arith in
    let before : suc k - 1 ≡ k = omega arith in
    ap (λ (n : ℕ). take n (drop 1 (set words (suc k) w))) place ∙ ap (λ (n : ℕ). take (suc k) (drop 1 (set words n w))) (sym after) ∙ one_more words k w (omega arith) ∙ ap (λ (n : ℕ). take n (drop 1 words) ++ w ∷ []) (sym before)

take_size : (k : ℕ) (xs : List ℕ) → k < length xs + 1 → length (take k xs) ≡ k
take_size zero xs l = refl
take_size (suc k) [] l = absurd (omega arith)
take_size (suc k) (x ∷ xs) l = ap suc (take_size k xs (omega arith))

pub read_size : (words : List ℕ) (i : ℕ) → 0 < i → i < length words + 1 → length (read_of words i) + 1 ≡ i
read_size words i early l = let size = dropped words in let is = take_size (i - 1) (drop 1 words) (omega arith) in omega arith

module _ (v p : View) (row i : ℕ) (words : List ℕ) (size : length words ≡ ROW_WORDS) (early : 0 < i) (inside : i < ROW_WORDS) (is : p ≡ probed v row (get_or words 0 0) (read_of words i)) where
  within : i < length words
  within = subst (λ (n : ℕ). i < n) (sym size) inside

  pub can_read : v.walk.busy ≡ true → v.walk.pivoted ≡ false → CanRead p row i
  can_read busy fresh = let less = within in subst (λ q. CanRead q row i) (sym is) (can_read_so v row (get_or words 0 0) (read_of words i) busy fresh i (read_size words i early (omega arith)) inside)

  pub next_read : (q : View) (w : ℕ) → q ≡ read p w → q ≡ probed v row (get_or (set words i w) 0 0) (read_of (set words i w) (i + 1))
  next_read q w e =
      e ∙ ap (λ u. read u w) is ∙ read_so v row (get_or words 0 0) (read_of words i) w
      ∙ ap₂ (λ (n : ℕ) (ws : List ℕ). probed v row n ws) (sym (kept_first words i w early)) (sym (read_more words i w early within))

-- once its count is noted
pub read_first : (v p : View) (row count : ℕ) (before after : List ℕ) → length before ≡ ROW_WORDS → p ≡ noted v row count → after ≡ set before 0 count → HasRead v p row after 1
read_first v p row count before after size is e = record {
  size = ap (λ (ws : List ℕ). length ws) e ∙ length-set before 0 count ∙ size;
  read = is ∙ ap (λ (n : ℕ). probed v row n []) (sym (get_or-set_same before 0 count 0 (subst (λ (n : ℕ). 0 < n) (sym size) (omega arith))) ∙ ap (λ (ws : List ℕ). get_or ws 0 0) (sym e));
}

-- and one word more
pub read_next : {v p : View} {row : ℕ} {before : List ℕ} (i : ℕ) → HasRead v p row before i → 0 < i → i < ROW_WORDS → (q : View) (w : ℕ) (after : List ℕ) → q ≡ read p w → after ≡ set before i w → HasRead v q row after (i + 1)
read_next {v = v} {p = p} {row = row} {before = before} i h early inside q w after is e = subst (λ ws. HasRead v q row ws (i + 1)) (sym e) (record {
  size = length-set before i w ∙ h.size;
  read = next_read v p row i before h.size early inside h.read q w is;
})

-- words of a row from one on were read, and those before it are as they were
pub record ReadsFrom (p : View) (old : List ℕ) (from : ℕ) (w : View) (row : ℕ) (words : List ℕ) (i : ℕ) : Type 0 where
  pub before : take from words ≡ take from old
  pub reading : IsReading w row words i
  pub read : (v : View) → HasRead v p row old from → HasRead v w row words i

pub can_read_from : {p w : View} {old words : List ℕ} {from row i : ℕ} → 0 < i → i < ROW_WORDS → ReadsFrom p old from w row words i → CanRead w row i
can_read_from {w = w} {words = words} {row = row} {i = i} begun few r = let before = r.reading in
    can_read before.before w row i words before.has.size begun few before.has.read before.early.busy before.early.fresh

pub reads_one : {p w : View} {old words : List ℕ} {from row i : ℕ} → from ≤ i → 0 < i → i < ROW_WORDS
    → (q : View) (x : ℕ) → q ≡ read w x → ReadsFrom p old from w row words i → ReadsFrom p old from q row (set words i x) (i + 1)
reads_one {words = words} {from = from} {i = i} late begun few q x is r = record {
  before = take-set-le from words i x late ∙ r.before;
  reading = record { before = r.reading.before; early = r.reading.early; has = read_next i r.reading.has begun few q x _ is refl };
  read = λ v h. read_next i (r.read v h) begun few q x _ is refl;
}

-- all words
pub read_whole : (words : List ℕ) → length words ≡ ROW_WORDS → (i : ℕ) → i ≡ ROW_WORDS → read_of words i ≡ drop 1 words
read_whole words size i all =
    let many = dropped words in
    let last : i - 1 ≡ length (drop 1 words) = ap (λ (n : ℕ). n - 1) (all ∙ sym size) ∙ sym many in
    ap (λ (n : ℕ). take n (drop 1 words)) last ∙ take-length (drop 1 words)

-- the words of a row are its count and the others
pub count_first : (words : List ℕ) → length words ≡ ROW_WORDS → get_or words 0 0 ∷ drop 1 words ≡ words
count_first [] size = absurd (omega (arith, size))
count_first (x ∷ xs) size = refl

pub rest_size : (words : List ℕ) → length words ≡ ROW_WORDS → length (drop 1 words) + 1 ≡ ROW_WORDS
rest_size [] size = absurd (omega (arith, size))
rest_size (x ∷ xs) size = let all : suc (length xs) ≡ ROW_WORDS = size in let is : length xs + 1 ≡ ROW_WORDS = omega arith in is

-- a word more of a row that is being read
module _ {p : View} (v : View) (row count : ℕ) (words : List ℕ) (is : p ≡ probed v row count words) where
  pub can_go_on : IsEarly v → (i : ℕ) → length words + 1 ≡ i → i < ROW_WORDS → CanRead p row i
  can_go_on early i next inside = subst (λ q. CanRead q row i) (sym is) (can_read_so v row count words early.busy early.fresh i next inside)

  pub goes_on : (q : View) (w : ℕ) → q ≡ read p w → q ≡ probed v row count (words ++ w ∷ [])
  goes_on q w e = e ∙ ap (λ u. read u w) is ∙ read_so v row count words w

-- a row by its count, its head and its number
pub top_read : (v w : View) (row count head number : ℕ) (words : List ℕ) → length words ≡ ROW_WORDS → take 3 words ≡ count ∷ head ∷ number ∷ [] → w ≡ probed v row count (head ∷ number ∷ []) → HasRead v w row words 3
top_read v w row count head number [] size first is = absurd (omega (arith, size))
top_read v w row count head number (x ∷ words) size first is = record {
  size = size;
  read = is ∙ ap₂ (λ (n : ℕ) (ws : List ℕ). probed v row n ws) (ap (λ (ws : List ℕ). get_or ws 0 0) (sym first)) (ap (λ (ws : List ℕ). drop 1 ws) (sym first));
}

-- a row begins with its top
pub first_three : (words : List ℕ) → length words ≡ ROW_WORDS → take 3 words ≡ get_or words 0 0 ∷ get_or words 1 0 ∷ get_or words 2 0 ∷ []
first_three [] size = absurd (omega arith)
first_three (a ∷ []) size = absurd (omega arith)
first_three (a ∷ b ∷ []) size = absurd (omega arith)
first_three (a ∷ b ∷ c ∷ rest) size = refl

-- and that is its top
pub top_is : (words : List ℕ) (count head number : ℕ) → take 3 words ≡ count ∷ head ∷ number ∷ [] → top_of words ≡ record { count = count; head = head; number = number }
top_is [] c h n e = absurd cc
top_is (x ∷ []) c h n e = absurd cc
top_is (x ∷ y ∷ []) c h n e = absurd cc
top_is (x ∷ y ∷ z ∷ rest) c h n e = let a : x ≡ c = cc in let b : y ≡ h = cc in let d : z ≡ n = cc in λ i. record { count = a i; head = b i; number = d i }

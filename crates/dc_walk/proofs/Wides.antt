-- A row of which the first words are stored, and the others only seen.
use Rattle.std.proofs.Common.{◌≡◌, ℕ, zero, suc, ◌+◌, ◌-◌, ◌/◌, ◌%◌, ◌<◌, ◌≤◌, ◌↔◌, Bool, IsTrue, List, [], ◌∷◌, ◌++◌, min, length, length-append, length-take-le, get_or, take, drop, replicate, refl, ap, sym, ◌∙◌, arith}
use Rattle.std.proofs.lemmas.List.{get_or_append_left, get_or-append_right, get_or-replicate, get_or-take}
use Rattle.dc_plain.specs.Facts.{Key}
use Rattle.dc_row.specs.Narrow.{told_words, widened, words_for, RowsEndInZeros}
use Rattle.dc_row.specs.Spelling.{TellsOf}
use Rattle.dc_names.specs.declared.limits.TheConstants.{ROW_WORDS}
use Rattle.dc_row.specs.declared.layout.TheConstants.{LENGTH_UNIT, LENGTHS}
use Rattle.dc_events.specs.Views.{View}
use Rattle.dc_walk.specs.Probes.{probed, read_of, seen_whole, AreZero, ReadsFirst, ReadsWhole}
use Rattle.dc_walk.proofs.Probed.{rest_size}

-- words up to one were read, and from it on this many, of which it is known whether they are zero
pub record ReadsOn (v w : View) (row : ℕ) (words : List ℕ) (from i : ℕ) (Zeros : Type 0) : Type 0 where
  pub rest : List ℕ
  pub size : from + length rest ≡ i
  pub read : w ≡ probed v row (get_or words 0 0) (read_of words from ++ rest)
  pub zeros : Zeros ↔ AreZero rest

pub read_size : (words rest : List ℕ) (from : ℕ) → length words ≡ ROW_WORDS → 0 < from → from ≤ ROW_WORDS → length (read_of words from ++ rest) + 1 ≡ from + length rest
read_size words rest from size some few =
    let all = rest_size words size in
    let short : length (read_of words from) ≡ from - 1 = length-take-le (from - 1) (drop 1 words) (omega arith) in
    let both = length-append (read_of words from) rest in
    omega arith

-- so the row was read whole
pub seen_by_first : (v : View) (row from : ℕ) (words rest : List ℕ) → 0 < from → length words ≡ ROW_WORDS → probed v row (get_or words 0 0) (read_of words from ++ rest) ≡ seen_whole v row (take from words ++ rest)
seen_by_first v row from [] rest some size = absurd (omega (arith, size))
seen_by_first v row zero (x ∷ xs) rest some size = absurd (omega arith)
seen_by_first v row (suc n) (x ∷ xs) rest some size = let same : suc n - 1 ≡ n = omega arith in ap (λ (m : ℕ). probed v row x (take m xs ++ rest)) same

zeros_are : (rest : List ℕ) → AreZero rest → rest ≡ replicate (length rest) 0
zeros_are [] zeros = refl
zeros_are (x ∷ rest) zeros =
    let first = zeros 0 (omega arith) in
    let others = zeros_are rest (λ i l. zeros (suc i) (omega arith)) in
    λ i. first i ∷ others i

-- zeros behind its first words make a row what these say
pub wide_with : (first rest : List ℕ) → length (first ++ rest) ≡ ROW_WORDS → AreZero rest → widened first ≡ first ++ rest
wide_with first rest size zeros =
    let both = length-append first rest in
    let many : ROW_WORDS - length first ≡ length rest = omega arith in
    ap (λ (n : ℕ). first ++ replicate n 0) many ∙ ap (λ (ws : List ℕ). first ++ ws) (sym (zeros_are rest zeros))

-- and what they say, there are zeros behind them
pub zeros_behind : (first rest : List ℕ) → length (first ++ rest) ≡ ROW_WORDS → widened first ≡ first ++ rest → AreZero rest
zeros_behind first rest size same i l =
    let both = length-append first rest in
    let at : length first + i - length first ≡ i = omega arith in
    ap (λ (k : ℕ). get_or rest k 0) (sym at) ∙ (sym (get_or-append_right first rest (length first) (length first + i) 0 refl (omega arith))
    ∙ (ap (λ (ws : List ℕ). get_or ws (length first + i) 0) (sym same)
    ∙ (get_or-append_right first (replicate (ROW_WORDS - length first) 0) (length first) (length first + i) 0 refl (omega arith)
    ∙ get_or-replicate (ROW_WORDS - length first) (length first + i - length first) 0 0 (omega arith))))

-- how many they are stands among the first three
pub told_still : (old new rest : List ℕ) (told : ℕ) → told ≡ told_words old → take 3 new ≡ take 3 old → 4 ≤ told → told ≤ length new → told ≡ told_words (take told new ++ rest)
told_still old new rest told is same some few =
    let short : length (take told new) ≡ told = length-take-le told new few in
    let head : get_or (take told new ++ rest) 1 0 ≡ get_or old 1 0 = get_or_append_left (take told new) rest 0 1 (omega arith) ∙ (get_or-take told new 1 0 (omega arith) ∙ (sym (get_or-take 3 new 1 0 (omega arith)) ∙ (ap (λ (ws : List ℕ). get_or ws 1 0) same ∙ get_or-take 3 old 1 0 (omega arith)))) in
    is ∙ ap (λ (w : ℕ). min (words_for (w / LENGTH_UNIT % LENGTHS)) ROW_WORDS) (sym head)

pub first_again : (first rest : List ℕ) (n : ℕ) → length first ≡ n → take n (first ++ rest) ≡ first
first_again [] rest zero size = refl
first_again [] rest (suc n) size = absurd (omega arith)
first_again (x ∷ first) rest zero size = absurd (omega arith)
first_again (x ∷ first) rest (suc n) size = ap (λ (ws : List ℕ). x ∷ ws) (first_again first rest n (omega arith))

-- a row was read whole, and of how many of its first words it is known that they say all
pub record ReadsWide (v w : View) (row : ℕ) (first : List ℕ) (told : ℕ) (narrow : Bool) : Type 0 where
  pub words : List ℕ
  pub whole : ReadsWhole v w row words
  pub count : told ≡ told_words words
  pub first_are : first ≡ take told words
  pub narrow_is : IsTrue narrow ↔ (widened first ≡ words)

pub wide_so : {v w : View} {row told : ℕ} (old new : List ℕ) {narrow : Bool} → told ≡ told_words old → take 3 new ≡ take 3 old → (4 ≤ told) × (told ≤ ROW_WORDS) → length new ≡ ROW_WORDS → ReadsFirst v w row (take told new) narrow → ReadsWide v w row (take told new) told narrow
wide_so {told = told} old new is same few size s = let all = size in let most = few.1 in record {
  words = take told new ++ s.rest;
  whole = record { size = s.size; read = s.read };
  count = told_still old new s.rest told is same few.0 (omega arith);
  first_are = sym (first_again (take told new) s.rest told (length-take-le told new (omega arith)));
  narrow_is = (λ yes. wide_with (take told new) s.rest s.size (s.zeros.0 yes), λ whole. s.zeros.1 (zeros_behind (take told new) s.rest s.size whole));
}

-- if it tells of a key, its first words do, and say all
pub told_wide : RowsEndInZeros → {v w : View} {row told : ℕ} {first : List ℕ} {narrow : Bool} (r : ReadsWide v w row first told narrow) {key : Key} → TellsOf r.words key → widened first ≡ r.words
told_wide law r tells = ap (λ (ws : List ℕ). widened ws) (r.first_are ∙ ap (λ (n : ℕ). take n r.words) r.count) ∙ (law r.words tells.fact tells.spelled).zeros

-- What a walk spends of its bytes.
use Rattle.std.proofs.Common.{◌≡◌, ◌≤◌, ◌<◌, ◌+◌, ◌-◌, ◌*◌, ◌==◌, ℕ, suc, zero, List, [], ◌∷◌, ◌++◌, Bool, true, false, cond, not, if◌then◌else◌, map, length, Result, Ok, Err, IfOk, refl, sym, ap, subst, ◌∙◌, arith}
use Rattle.std.specs.List.{filter, onto_first, sum_by}
use Rattle.std.proofs.Math.Nat.{suc-mul}
use Rattle.std.proofs.lemmas.Bool.{and_parts}
use Rattle.std.proofs.lemmas.List.Sums.{sum_by-append, sum_by-cons}
use Rattle.dc_names.specs.Bytes.{is_dot, is_dot_dot, is_empty, pieces}
use Rattle.dc_names.specs.Paths.{Part, bytes_of, part_of, parts_of}
use Rattle.dc_names.specs.Paths.Part.{Name, Dot, DotDot}
use Rattle.dc_resolve.specs.Spends.{names_bytes, way_bytes, LeavesLinks, MaySpend, Spends}
use Rattle.dc_resolve.specs.declared.finder.Finder.{Ghosts}
use Rattle.dc_resolve.specs.declared.outcome.Way.{Way}
use Rattle.dc_resolve.specs.declared.outcome.Way.TheVariants.{Ended, Through}

-- a piece's part has no more bytes than the piece
dot_some : (piece : List ℕ) → is_dot piece ≡ true → 1 ≤ length piece
dot_some [] e = absurd cc
dot_some (a ∷ rest) e = omega arith

dots_some : (piece : List ℕ) → is_dot_dot piece ≡ true → 2 ≤ length piece
dots_some [] e = absurd cc
dots_some (a ∷ rest) e = let some = dot_some rest ((and_parts (a == 46) (is_dot rest) e).1) in omega arith

part_by : (dot dots : Bool) (piece : List ℕ) → (dot ≡ true → 1 ≤ length piece) → (dots ≡ true → 2 ≤ length piece) → length (bytes_of (if dot then Dot else if dots then DotDot else Name piece)) ≤ length piece
part_by true dots piece p q = p refl
part_by false true piece p q = q refl
part_by false false piece p q = omega arith

part_within : (piece : List ℕ) → length (bytes_of (part_of piece)) ≤ length piece
part_within piece = part_by (is_dot piece) (is_dot_dot piece) piece (dot_some piece) (dots_some piece)

word_within : (some : Bool) (piece : List ℕ) (words : List (List ℕ)) (n : ℕ) → names_bytes (map part_of words) ≤ n → names_bytes (map part_of (cond some (piece ∷ words) words)) ≤ length piece + n
word_within true piece words n within = omega (arith, sum_by-cons (λ part. length (bytes_of part)) (part_of piece) (map part_of words), part_within piece)
word_within false piece words n within = omega arith

words_within : (ps : List (List ℕ)) → names_bytes (map part_of (filter (λ piece. not (is_empty piece)) ps)) ≤ sum_by length ps
words_within [] = omega arith
words_within (p ∷ ps) =
    let more = word_within (not (is_empty p)) p (filter (λ piece. not (is_empty piece)) ps) (sum_by length ps) (words_within ps) in
    omega (arith, more, sum_by-cons length p ps)

one_more : (b : ℕ) (ps : List (List ℕ)) → sum_by length (onto_first b ps) ≤ 1 + sum_by length ps
one_more b [] = omega arith
one_more b (p ∷ ps) = omega (arith, sum_by-cons length (b ∷ p) ps, sum_by-cons length p ps)

pieces_within : (text : List ℕ) → sum_by length (pieces text) ≤ length text
pieces_within [] = omega arith
pieces_within (b ∷ bs) =
    let more = pieces_within bs in
    elim (b == 47) as (λ t. sum_by length (cond t ([] ∷ pieces bs) (onto_first b (pieces bs))) ≤ length (b ∷ bs)) [
      | true ↦ omega (arith, sum_by-cons length [] (pieces bs))
      | false ↦ omega (arith, one_more b (pieces bs))
    ]

-- the parts of a text have no more bytes than the text
pub names_within : (text : List ℕ) → names_bytes (parts_of text) ≤ length text
names_within text = omega (arith, words_within (pieces text), pieces_within text)

-- nor those of its front
pub front_within : (front text : List ℕ) (last : Part) {bytes : List ℕ} → bytes ≡ text → parts_of bytes ≡ parts_of front ++ last ∷ [] → names_bytes (parts_of front) ≤ length text
front_within front text last same split =
    omega (arith, names_within text, sum_by-append (λ part. length (bytes_of part)) (parts_of front) (last ∷ []), ap names_bytes (sym (ap parts_of same) ∙ split))

names_first : {part : Part} {before after : List Part} → before ≡ part ∷ after → names_bytes before ≡ length (bytes_of part) + names_bytes after
names_first {part = part} {after = after} is = ap names_bytes is ∙ sum_by-cons (λ p. length (bytes_of p)) part after

link_more : (links n : ℕ) → 0 < links → links * n ≡ n + (links - 1) * n
link_more zero n some = absurd (omega arith)
link_more (suc links) n some =
    let same : suc links - 1 ≡ links = omega arith in
    rw same (omega (arith, suc-mul links n))

module _ {F T S : Type 0} (g : Ghosts F T S) where
  may_same : {f : F} {n m : ℕ} → n ≡ m → g.may_spend f n → g.may_spend f m
  may_same {f} e may = subst (g.may_spend f) e may

  -- less may be spent
  pub may_less : {f : F} {n m : ℕ} → m ≤ n → MaySpend g f n → MaySpend g f m
  may_less {n = n} {m = m} le may = (n - m + may.0, may_same (omega arith) may.1)

  pub may_within : {f : F} {n m : ℕ} → m ≤ n → g.may_spend f n → MaySpend g f m
  may_within {n = n} {m = m} le may = (n - m, may_same (omega arith) may)

  -- what is left of what may be
  pub may_left : {old new : F} (n m : ℕ) → Spends g old new n m → MaySpend g old n → MaySpend g new m
  may_left n m spends may = (may.0, spends may.0 may.1)

  -- one after the other
  pub spends_on : {a b c : F} (n m k : ℕ) → Spends g a b n m → Spends g b c m k → Spends g a c n k
  spends_on n m k first second more may = second more (first more may)

  -- beside others
  pub spends_beside : {old new : F} (n m k : ℕ) {all left : ℕ} → all ≡ n + k → left ≡ m + k → Spends g old new n m → Spends g old new all left
  spends_beside n m k e d spends more may = may_same (omega arith) (spends (k + more) (may_same (omega arith) may))

  -- the first of some parts
  pub may_first : {f : F} {part : Part} {before after : List Part} → before ≡ part ∷ after → MaySpend g f (names_bytes before) → MaySpend g f (length (bytes_of part))
  may_first {part = part} {before = before} {after = after} is may = may_less (omega (arith, names_first is)) may

  pub spends_first : {old new : F} {part : Part} {before after : List Part} → before ≡ part ∷ after → Spends g old new (length (bytes_of part)) 0 → Spends g old new (names_bytes before) (names_bytes after)
  spends_first {part = part} {after = after} is spends = spends_beside (length (bytes_of part)) 0 (names_bytes after) (names_first is) (omega arith) spends

  -- the starting directory's dot-dot
  pub may_start : {old new : F} (n : ℕ) → Spends g old new 2 0 → MaySpend g old (2 + n) → MaySpend g new n
  may_start n spends may = may_left (2 + n) n (spends_beside 2 0 n refl (omega arith) spends) may

  -- the text of a link
  pub may_text : {f : F} (links : ℕ) → 0 < links → MaySpend g f (links * g.link_bytes) → MaySpend g f g.link_bytes
  may_text links some may = may_less (omega (arith, link_more links g.link_bytes some)) may

  module _ (spends_less : (f : F) (a b : ℕ) → g.may_spend f (a + b) → g.may_spend f b) {old told : F} (links : ℕ) {text bytes : List ℕ} (some : 0 < links) (same : bytes ≡ text) (spends : Spends g old told g.link_bytes (length text)) where
    -- and the names in it
    spends_link : Spends g old told (links * g.link_bytes) (way_bytes g bytes (links - 1))
    spends_link more may =
        let rest = (links - 1) * g.link_bytes in
        let less : names_bytes (parts_of bytes) ≤ length text = omega (arith, names_within bytes, ap length same) in
        spends_less told (length text - names_bytes (parts_of bytes)) (way_bytes g bytes (links - 1) + more)
        (may_same (omega arith) (spends (rest + more) (may_same (omega (arith, link_more links g.link_bytes some)) may)))

    pub may_over : MaySpend g old (links * g.link_bytes) → MaySpend g told (way_bytes g bytes (links - 1))
    may_over may = may_left (links * g.link_bytes) (way_bytes g bytes (links - 1)) spends_link may

    pub over_link : (new : F) {E : Type 0} (result : Result Way E) → IfOk result (LeavesLinks g told new (way_bytes g bytes (links - 1))) → IfOk result (LeavesLinks g old new (links * g.link_bytes))
    over_link new (Err e) leaves = tt
    over_link new (Ok (Ended end)) leaves = tt
    over_link new (Ok (Through next left)) leaves = spends_on (links * g.link_bytes) (way_bytes g bytes (links - 1)) (left * g.link_bytes) spends_link leaves

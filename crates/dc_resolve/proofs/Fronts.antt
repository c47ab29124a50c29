-- Texts that are cut behind a slash.
use Rattle.std.proofs.Common.{◌≡◌, ℕ, suc, ◌-◌, ◌<◌, ◌≤◌, ◌==◌, ◌&&◌, ◌||◌, inl, inr, ◌∷◌, [], ◌++◌, List, drop, get_or, map, length, slice_get, take, Bool, true, false, cond, not, Option, Some, None, IfNone, refl, ap, sym, ◌∙◌, arith, rules, append_assoc, length-append}
use Rattle.std.proofs.Math.Seq.{drop-append_seam, take-length}
use Rattle.std.specs.List.{onto_first, list_any, list_all, filter}
use Rattle.std.proofs.lemmas.List.{append-nil, map-append, take-append-drop}
use Rattle.std.proofs.lemmas.List.Elements.{filter-append}
use Rattle.std.proofs.lemmas.List.Folds.{list_all-append}
use Rattle.std.proofs.lemmas.List.Splits.{length-slice_split}
use Rattle.dc_names.specs.Bytes.{pieces, is_empty, is_part, has_parts}
use Rattle.dc_names.specs.Paths.{Part, begins_with_slash, ends_in_slash, part_of, parts_of, words_of}
use Rattle.dc_resolve.specs.Fronts.{Begins, IsFront}

pub begins_itself : (text : List ℕ) → Begins text text
begins_itself text = ([], sym (append-nil text))

pub begins_shorter : (front text : List ℕ) (n : ℕ) → Begins front text → Begins (take n front) text
begins_shorter front text n b = (drop n front ++ b.0, b.1 ∙ ap (λ (xs : List ℕ). xs ++ b.0) (sym (take-append-drop n front)) ∙ append_assoc (take n front) (drop n front) b.0)

pub begins_again : (front mid text : List ℕ) → Begins front mid → Begins mid text → Begins front text
begins_again front mid text a b = (a.0 ++ b.0, b.1 ∙ ap (λ (xs : List ℕ). xs ++ b.0) a.1 ∙ append_assoc front a.0 b.0)

-- some bytes tell whether a text that begins with them begins with a slash
pub begins_so : (front text : List ℕ) → 1 ≤ length front → Begins front text → begins_with_slash front ≡ begins_with_slash text
begins_so [] text some b = absurd (omega arith)
begins_so (x ∷ xs) text some b = sym (ap begins_with_slash b.1)

onto_first-append : {A : Type 0} (x : A) (ps qs : List (List A)) → 0 < length ps → onto_first x (ps ++ qs) ≡ onto_first x ps ++ qs
onto_first-append x [] qs some = absurd (omega arith)
onto_first-append x (p ∷ ps) qs some = refl

-- the pieces on both sides of a slash
pieces_joined : (xs ys : List ℕ) → pieces (xs ++ 47 ∷ ys) ≡ pieces xs ++ pieces ys
pieces_joined [] ys = refl
pieces_joined (x ∷ xs) ys =
    let more = pieces_joined xs ys in
    elim (x == 47) as (λ t. cond t ([] ∷ pieces (xs ++ 47 ∷ ys)) (onto_first x (pieces (xs ++ 47 ∷ ys))) ≡ cond t ([] ∷ pieces xs) (onto_first x (pieces xs)) ++ pieces ys) [
      | true ↦ ap (λ ps. [] ∷ ps) more
      | false ↦ ap (onto_first x) more ∙ onto_first-append x (pieces xs) (pieces ys) (omega (arith, length-slice_split (λ b. b == 47) xs))
    ]

pub parts_joined : (xs ys : List ℕ) → parts_of (xs ++ 47 ∷ ys) ≡ parts_of xs ++ parts_of ys
parts_joined xs ys =
    ap (λ ps. map part_of (filter (λ piece. not (is_empty piece)) ps)) (pieces_joined xs ys)
    ∙ ap (map part_of) (filter-append (λ piece. not (is_empty piece)) (pieces xs) (pieces ys)) ∙ map-append part_of (words_of xs) (words_of ys)

pub valid_joined : (xs ys : List ℕ) → has_parts (xs ++ 47 ∷ ys) ≡ (has_parts xs && has_parts ys)
valid_joined xs ys = ap (list_all is_part) (pieces_joined xs ys) ∙ list_all-append is_part (pieces xs) (pieces ys)

some_word : (b : ℕ) (ps : List (List ℕ)) → is_empty (map part_of (filter (λ piece. not (is_empty piece)) (onto_first b ps))) ≡ false
some_word b [] = search rules
some_word b (p ∷ ps) = search rules

-- a part stands there exactly if some byte is no slash
pub beyond_slashes : (bytes : List ℕ) → list_any (λ b. not (b == 47)) bytes ≡ not (is_empty (parts_of bytes))
beyond_slashes [] = refl
beyond_slashes (b ∷ bs) =
    let more = beyond_slashes bs in
    elim (b == 47) as (λ t. (not t || list_any (λ b. not (b == 47)) bs) ≡ not (is_empty (map part_of (filter (λ piece. not (is_empty piece)) (cond t ([] ∷ pieces bs) (onto_first b (pieces bs))))))) [
      | true ↦ more
      | false ↦ ap not (sym (some_word b (pieces bs)))
    ]

last_split : (xs : List ℕ) → 1 ≤ length xs → xs ≡ take (length xs - 1) xs ++ get_or xs (length xs - 1) 0 ∷ []
last_split [] some = absurd (omega arith)
last_split (x ∷ []) some = refl
last_split (x ∷ y ∷ ys) some =
    let same : length (x ∷ y ∷ ys) - 1 ≡ suc (length (y ∷ ys) - 1) = omega arith in
    let more = last_split (y ∷ ys) (omega arith) in
    rw same (ap (λ l. x ∷ l) more)

slash_last : (xs : List ℕ) → 1 ≤ length xs → get_or xs (length xs - 1) 0 ≡ 47 → xs ≡ take (length xs - 1) xs ++ 47 ∷ []
slash_last xs some is = last_split xs some ∙ ap (λ b. take (length xs - 1) xs ++ b ∷ []) is

and_true : (b : Bool) → (b && true) ≡ b
and_true true = refl
and_true false = refl

-- without the slash that ends them
pub parts_before : (xs : List ℕ) → 1 ≤ length xs → get_or xs (length xs - 1) 0 ≡ 47 → parts_of (take (length xs - 1) xs) ≡ parts_of xs
parts_before xs some is = sym (ap parts_of (slash_last xs some is) ∙ parts_joined (take (length xs - 1) xs) [] ∙ append-nil (parts_of (take (length xs - 1) xs)))

pub valid_before : (xs : List ℕ) → 1 ≤ length xs → get_or xs (length xs - 1) 0 ≡ 47 → has_parts (take (length xs - 1) xs) ≡ has_parts xs
valid_before xs some is = sym (ap has_parts (slash_last xs some is) ∙ valid_joined (take (length xs - 1) xs) [] ∙ and_true (has_parts (take (length xs - 1) xs)))

pub last_of : {A : Type 0} (xs : List A) (x : A) → slice_get (xs ++ x ∷ []) (length (xs ++ x ∷ []) - 1) ≡ Some x
last_of [] x = refl
last_of (y ∷ ys) x =
    let same : length (y ∷ (ys ++ x ∷ [])) - 1 ≡ suc (length (ys ++ x ∷ []) - 1) = omega (arith, length-append ys (x ∷ [])) in
    rw same (last_of ys x)

pub front_of : {A : Type 0} (xs : List A) (x : A) → take (length (xs ++ x ∷ []) - 1) (xs ++ x ∷ []) ≡ xs
front_of [] x = refl
front_of (y ∷ ys) x =
    let same : length (y ∷ (ys ++ x ∷ [])) - 1 ≡ suc (length (ys ++ x ∷ []) - 1) = omega (arith, length-append ys (x ∷ [])) in
    rw same (ap (λ l. y ∷ l) (front_of ys x))

module _ {front text : List ℕ} (f : IsFront front text) where
  -- what stands behind the front
  pub behind : take (length text - length front) (drop (length front) text) ≡ f.before.piece
  behind =
      let piece = f.before.piece in
      let rest : drop (length front) text ≡ piece = ap (drop (length front)) f.before.is ∙ drop-append_seam front piece in
      let count : length text - length front ≡ length piece = omega (arith, ap length f.before.is, length-append front piece) in
      (λ i. take (count i) (rest i)) ∙ take-length piece

  cut_by : (more : List ℕ) → front ≡ more ++ 47 ∷ [] → text ≡ more ++ 47 ∷ f.before.piece
  cut_by more e = f.before.is ∙ ap (λ fr. fr ++ f.before.piece) e ∙ append_assoc more (47 ∷ []) f.before.piece

  pub parts_cut : parts_of text ≡ parts_of front ++ parts_of f.before.piece
  parts_cut = elim f.ends [
    | inl e ↦ ap parts_of (f.before.is ∙ ap (λ fr. fr ++ f.before.piece) e) ∙ sym (ap (λ fr. parts_of fr ++ parts_of f.before.piece) e)
    | inr w ↦ ap parts_of (cut_by w.0 w.1) ∙ parts_joined w.0 f.before.piece
        ∙ sym (ap (λ fr. parts_of fr ++ parts_of f.before.piece) w.1 ∙ ap (λ ps. ps ++ parts_of f.before.piece) (parts_joined w.0 [] ∙ append-nil (parts_of w.0)))
  ]

  pub valid_cut : has_parts text ≡ (has_parts front && has_parts f.before.piece)
  valid_cut = elim f.ends [
    | inl e ↦ ap has_parts (f.before.is ∙ ap (λ fr. fr ++ f.before.piece) e) ∙ sym (ap (λ fr. has_parts fr && has_parts f.before.piece) e)
    | inr w ↦ ap has_parts (cut_by w.0 w.1) ∙ valid_joined w.0 f.before.piece
        ∙ sym (ap (λ fr. has_parts fr && has_parts f.before.piece) w.1 ∙ ap (λ b. b && has_parts f.before.piece) (valid_joined w.0 [] ∙ and_true (has_parts w.0)))
  ]

  -- nothing stands behind it only if there is nothing at all
  pub nothing_cut : ends_in_slash text ≡ false → f.before.piece ≡ [] → parts_of text ≡ []
  nothing_cut unended none = elim f.ends [
    | inl e ↦ ap parts_of (f.before.is ∙ (λ i. e i ++ none i))
    | inr w ↦
        let is : text ≡ w.0 ++ 47 ∷ [] = cut_by w.0 w.1 ∙ ap (λ p. w.0 ++ 47 ∷ p) none in
        let ended : ends_in_slash text ≡ true = ap ends_in_slash is ∙ ap (λ (o : Option ℕ). elim o [ None ↦ false | Some b ↦ b == 47 ]) (last_of w.0 47) in
        absurd (cc)
  ]

one_word : (piece : List ℕ) (part : Part) (rest : List Part) (some : Bool) → map part_of (cond some (piece ∷ []) []) ≡ part ∷ rest → rest ≡ []
one_word piece part rest true e = cc
one_word piece part rest false e = absurd (cc)

-- a piece is one part at most
pub alone : (piece : List ℕ) (part : Part) (rest : List Part) → pieces piece ≡ piece ∷ [] → parts_of piece ≡ part ∷ rest → rest ≡ []
alone piece part rest whole is =
    one_word piece part rest (not (is_empty piece)) (sym (ap (λ ps. map part_of (filter (λ p. not (is_empty p)) ps)) whole) ∙ is)

no_word : (piece : List ℕ) → map part_of (cond (not (is_empty piece)) (piece ∷ []) []) ≡ [] → piece ≡ []
no_word [] e = refl
no_word (b ∷ bs) e =
    let some : is_empty (b ∷ bs) ≡ false = search rules in
    let never : part_of (b ∷ bs) ∷ [] ≡ [] = ap (λ t. map part_of (cond (not t) ((b ∷ bs) ∷ []) [])) (sym some) ∙ e in
    absurd (cc)

pub empty_piece : (piece : List ℕ) → pieces piece ≡ piece ∷ [] → parts_of piece ≡ [] → piece ≡ []
empty_piece piece whole is = no_word piece (sym (ap (λ ps. map part_of (filter (λ p. not (is_empty p)) ps)) whole) ∙ is)

pub none_so : {A P : Type 0} (r : Option A) → P → IfNone r P
none_so None p = p
none_so (Some x) p = tt

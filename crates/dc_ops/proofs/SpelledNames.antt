-- Names with a slash before each: their bytes are a path without a fault, whose parts are the names.
use Rattle.std.proofs.Common.{◌≡◌, ℕ, suc, ◌+◌, ◌≤◌, ◌<◌, ◌==◌, ◌&&◌, ◌||◌, not, nat_lt, List, [], ◌∷◌, ◌++◌, length, map, filter, Bool, true, false, cond, Some, None, IsTrue, refl, ap, sym, ◌∙◌, append_assoc, arith}
use Rattle.std.proofs.lemmas.Bool.Decides.{nat_tests}
use Rattle.std.proofs.lemmas.List.{append-nil, length-append}
use Rattle.std.specs.List.{AllByRecursion, list_any, onto_first, slice_split}
use Rattle.dc_names.specs.Bytes.{is_dot, is_dot_dot, is_empty, is_name, pieces}
use Rattle.dc_names.specs.Paths.{Part, fault_of, is_long, part_of, parts_of}
use Rattle.dc_names.specs.declared.fault.TextFault.TheVariants.{Empty, Long, Zero}
use Rattle.dc_names.specs.Paths.Part.{Name, Dot, DotDot}
use Rattle.dc_names.specs.declared.limits.TheConstants.{NAME_MAX, PATH_MAX}
use Rattle.dc_ops.specs.Whereabouts.{path_by, spelled}

abbrev pub AreNames : List (List ℕ) → Type 0
AreNames names = AllByRecursion (λ (name : List ℕ). IsTrue (is_name name)) names

both : (a b : Bool) → (a && b) ≡ true → (a ≡ true) × (b ≡ true)
both true b e = (refl, e)
both false b e = absurd cc

neither : (a b : Bool) → (a || b) ≡ false → (a ≡ false) × (b ≡ false)
neither true b e = absurd cc
neither false b e = (refl, e)

negated : (a : Bool) → not a ≡ true → a ≡ false
negated true e = cc
negated false e = refl

-- what a name is, one by one
record Named (name : List ℕ) : Type 0 where
  some : is_empty name ≡ false
  short : nat_lt NAME_MAX (length name) ≡ false
  clean : list_any (λ b. b == 47 || b == 0) name ≡ false
  no_dot : is_dot name ≡ false
  no_dots : is_dot_dot name ≡ false

named : (name : List ℕ) → IsTrue (is_name name) → Named name
named name is =
    let d = both (not (is_empty name) && not (nat_lt NAME_MAX (length name)) && not (list_any (λ b. b == 47 || b == 0) name) && not (is_dot name)) (not (is_dot_dot name)) is in
    let c = both (not (is_empty name) && not (nat_lt NAME_MAX (length name)) && not (list_any (λ b. b == 47 || b == 0) name)) (not (is_dot name)) d.0 in
    let b = both (not (is_empty name) && not (nat_lt NAME_MAX (length name))) (not (list_any (λ b. b == 47 || b == 0) name)) c.0 in
    let a = both (not (is_empty name)) (not (nat_lt NAME_MAX (length name))) b.0 in
    record { some = negated _ a.0; short = negated _ a.1; clean = negated _ b.1; no_dot = negated _ c.1; no_dots = negated _ d.1 }

-- ---- the pieces
slash_ends : (name rest : List ℕ) → list_any (λ b. b == 47 || b == 0) name ≡ false → pieces (name ++ 47 ∷ rest) ≡ name ∷ pieces rest
slash_ends [] rest clean = refl
slash_ends (b ∷ bs) rest clean =
    let (first, later) = neither (b == 47 || b == 0) (list_any (λ b. b == 47 || b == 0) bs) clean in
    let (no_slash, no_zero) = neither (b == 47) (b == 0) first in
    ap (λ t. cond t ([] ∷ pieces (bs ++ 47 ∷ rest)) (onto_first b (pieces (bs ++ 47 ∷ rest)))) no_slash ∙ ap (onto_first b) (slash_ends bs rest later)

end_ends : (name : List ℕ) → list_any (λ b. b == 47 || b == 0) name ≡ false → pieces name ≡ name ∷ []
end_ends [] clean = refl
end_ends (b ∷ bs) clean =
    let (first, later) = neither (b == 47 || b == 0) (list_any (λ b. b == 47 || b == 0) bs) clean in
    let (no_slash, no_zero) = neither (b == 47) (b == 0) first in
    ap (λ t. cond t ([] ∷ pieces bs) (onto_first b (pieces bs))) no_slash ∙ ap (onto_first b) (end_ends bs later)

pieces_after : (name : List ℕ) (names : List (List ℕ)) → IsTrue (is_name name) → AreNames names → pieces (name ++ spelled names) ≡ name ∷ names
pieces_after name [] is all = ap pieces (append-nil name) ∙ end_ends name (named name is).clean
pieces_after name (next ∷ names) is all = slash_ends name (next ++ spelled names) (named name is).clean ∙ ap (λ ps. name ∷ ps) (pieces_after next names all.0 all.1)

-- ---- the parts
kept : (names : List (List ℕ)) → AreNames names → filter (λ piece. not (is_empty piece)) names ≡ names
kept [] all = refl
kept (name ∷ names) all =
    ap (λ t. cond (not t) (name ∷ filter (λ piece. not (is_empty piece)) names) (filter (λ piece. not (is_empty piece)) names)) (named name all.0).some
    ∙ ap (λ ns. name ∷ ns) (kept names all.1)

part_is : (name : List ℕ) → IsTrue (is_name name) → part_of name ≡ Name name
part_is name is =
    let n = named name is in
    ap (λ b. cond b Dot (cond (is_dot_dot name) DotDot (Name name))) n.no_dot ∙ ap (λ b. cond b DotDot (Name name)) n.no_dots

parts_are : (names : List (List ℕ)) → AreNames names → map part_of names ≡ map Name names
parts_are [] all = refl
parts_are (name ∷ names) all = (λ i. part_is name all.0 i ∷ parts_are names all.1 i)

pub parts_spelled : (names : List (List ℕ)) → AreNames names → parts_of (path_by names) ≡ map Name names
parts_spelled [] all = refl
parts_spelled (name ∷ names) all =
    ap (λ ps. map part_of (filter (λ piece. not (is_empty piece)) ([] ∷ ps))) (pieces_after name names all.0 all.1)
    ∙ ap (map part_of) (kept (name ∷ names) all) ∙ parts_are (name ∷ names) all

-- ---- no fault
short_all : (names : List (List ℕ)) → AreNames names → list_any (λ piece. nat_lt NAME_MAX (length piece)) names ≡ false
short_all [] all = refl
short_all (name ∷ names) all = ap (λ b. b || list_any (λ piece. nat_lt NAME_MAX (length piece)) names) (named name all.0).short ∙ short_all names all.1

pieces_short : (names : List (List ℕ)) → AreNames names → list_any (λ piece. nat_lt NAME_MAX (length piece)) (pieces (path_by names)) ≡ false
pieces_short [] all = refl
pieces_short (name ∷ names) all =
    ap (λ ps. list_any (λ piece. nat_lt NAME_MAX (length piece)) ([] ∷ ps)) (pieces_after name names all.0 all.1) ∙ short_all (name ∷ names) all

no_zero_in : (bytes : List ℕ) → list_any (λ b. b == 47 || b == 0) bytes ≡ false → list_any (λ b. b == 0) bytes ≡ false
no_zero_in [] clean = refl
no_zero_in (b ∷ bs) clean =
    let (first, later) = neither (b == 47 || b == 0) (list_any (λ b. b == 47 || b == 0) bs) clean in
    let (no_slash, no_zero) = neither (b == 47) (b == 0) first in
    ap (λ t. t || list_any (λ b. b == 0) bs) no_zero ∙ no_zero_in bs later

none_after : (xs ys : List ℕ) → list_any (λ b. b == 0) xs ≡ false → list_any (λ b. b == 0) ys ≡ false → list_any (λ b. b == 0) (xs ++ ys) ≡ false
none_after [] ys none others = others
none_after (x ∷ xs) ys none others =
    let (here, later) = neither (x == 0) (list_any (λ b. b == 0) xs) none in
    ap (λ t. t || list_any (λ b. b == 0) (xs ++ ys)) here ∙ none_after xs ys later others

no_zero : (names : List (List ℕ)) → AreNames names → list_any (λ b. b == 0) (spelled names) ≡ false
no_zero [] all = refl
no_zero (name ∷ names) all = none_after name (spelled names) (no_zero_in name (named name all.0).clean) (no_zero names all.1)

no_zero_by : (names : List (List ℕ)) → AreNames names → list_any (λ b. b == 0) (path_by names) ≡ false
no_zero_by [] all = refl
no_zero_by (name ∷ names) all = no_zero (name ∷ names) all

not_zero : (n : ℕ) → (suc n == 0) ≡ false
not_zero n = grind (arith, nat_tests)

some_by : (names : List (List ℕ)) → is_empty (path_by names) ≡ false
some_by [] = refl
some_by (name ∷ names) = not_zero (length (name ++ spelled names))

fits : (m n : ℕ) → n ≤ m → nat_lt m n ≡ false
fits m n le = grind (arith, nat_tests)

pub no_fault : (names : List (List ℕ)) → AreNames names → length (path_by names) ≤ PATH_MAX → fault_of (path_by names) ≡ None
no_fault names all within =
    let text : List ℕ = path_by names in
    ap (λ (b : Bool). cond b (Some Empty) (cond (is_long text) (Some Long) (cond (list_any (λ b. b == 0) text) (Some Zero) None))) (some_by names)
    ∙ ap (λ (b : Bool). cond (b || list_any (λ piece. nat_lt NAME_MAX (length piece)) (pieces text)) (Some Long) (cond (list_any (λ b. b == 0) text) (Some Zero) None)) (fits PATH_MAX (length text) within)
    ∙ ap (λ (b : Bool). cond b (Some Long) (cond (list_any (λ b. b == 0) text) (Some Zero) None)) (pieces_short names all)
    ∙ ap (λ (b : Bool). cond b (Some Zero) None) (no_zero_by names all)

-- ---- the length
pub length_spelled : (front names : List (List ℕ)) → length (spelled (front ++ names)) ≡ length (spelled front) + length (spelled names)
length_spelled [] names = let none : length (spelled []) ≡ 0 = refl in omega (arith, none)
length_spelled (name ∷ front) names =
    let more = length_spelled front names in
    let whole : length (spelled ((name ∷ front) ++ names)) ≡ suc (length name + length (spelled (front ++ names))) = ap suc (length-append name (spelled (front ++ names))) in
    let first : length (spelled (name ∷ front)) ≡ suc (length name + length (spelled front)) = ap suc (length-append name (spelled front)) in
    omega (arith, more, whole, first)

pub length_first : (name : List ℕ) (names : List (List ℕ)) → length (spelled (name ∷ names)) ≡ 1 + length name + length (spelled names)
length_first name names =
    let whole : length (spelled (name ∷ names)) ≡ suc (length name + length (spelled names)) = ap suc (length-append name (spelled names)) in
    omega (arith, whole)

-- How many records altered the tree at a place, summed over lists.
use Rattle.std.proofs.Common.{◌≡◌, ◌≢◌, ℕ, zero, suc, ◌+◌, ◌<◌, ◌≤◌, Bool, true, false, cond, eqb, ◌&&◌, List, [], ◌∷◌, ◌++◌, length, take, refl, ap, sym, ◌∙◌, arith, lt-ltb, le-ltb, ne_eqb, true≢false}
use mathlib.Core.Logic.{dite}
use native.Mathlib.Decide.{dec_lt}
use Rattle.std.proofs.lemmas.List.{length-take}
use Rattle.std.specs.List.{flat_map}
use Rattle.dc_events.specs.Rule.{once_below}
use Rattle.dc_events.specs.Standing.{Rising, after, all_hits, ends, hit, hits, weight}
use Rattle.dc_events.specs.Views.{Record}
use Rattle.dc_names.specs.declared.limits.TheConstants.{SESSIONS}
use Rattle.dc_plain.specs.Requests.{Request}
use Rattle.dc_serve.specs.Sessions.{AllRise, present, some_of}
use Rattle.dc_serve.specs.Turns.{Turn, all_of, strand, strands}
use Rattle.dc_serve.proofs.Sessions.{strand-append}
use Rattle.dc_serve.proofs.Strands.{ends_up}

pub hits-append : (p : ℕ) (xs ys : List Record) → hits p (xs ++ ys) ≡ hits p xs + hits p ys
hits-append p [] ys = omega arith
hits-append p (x ∷ xs) ys = let rest = hits-append p xs ys in omega arith

pub all-append : (p : ℕ) (xs ys : List (List Record)) → all_hits p (xs ++ ys) ≡ all_hits p xs + all_hits p ys
all-append p [] ys = omega arith
all-append p (x ∷ xs) ys = let rest = all-append p xs ys in omega arith

some_hits : (p : ℕ) (s : List Record) → all_hits p (some_of s) ≡ hits p s
some_hits p [] = refl
some_hits p (r ∷ rs) = omega arith

pub strands_next : (p k : ℕ) (turns : List Turn) → all_hits p (strands (suc k) turns) ≡ all_hits p (strands k turns) + hits p (strand k turns)
unfolding strands
strands_next p k turns = let both = all-append p (strands k turns) (strand k turns ∷ []) in omega arith

pub strands_zero : (p : ℕ) (turns : List Turn) → all_hits p (strands 0 turns) ≡ 0
unfolding strands
strands_zero p turns = refl

present_hits : (p k : ℕ) (turns : List Turn) → all_hits p (present k turns) ≡ all_hits p (strands k turns)
unfolding present
present_hits p zero turns = sym (strands_zero p turns)
present_hits p (suc k) turns =
    let both = all-append p (present k turns) (some_of (strand k turns)) in
    let one = some_hits p (strand k turns) in
    let rest = present_hits p k turns in
    let more' = strands_next p k turns in
    omega arith

pub strands-append : (p k : ℕ) (xs ys : List Turn) → all_hits p (strands k (xs ++ ys)) ≡ all_hits p (strands k xs) + all_hits p (strands k ys)
strands-append p zero xs ys = let a = strands_zero p (xs ++ ys) in let b = strands_zero p xs in let c = strands_zero p ys in omega arith
strands-append p (suc k) xs ys =
    let rest = strands-append p k xs ys in
    let a = strands_next p k (xs ++ ys) in
    let b = strands_next p k xs in
    let c = strands_next p k ys in
    let one = ap (hits p) (strand-append k xs ys) ∙ hits-append p (strand k xs) (strand k ys) in
    omega arith

pub strands_none : (p k : ℕ) (turns : List Turn) → ((s : ℕ) → hits p (strand s turns) ≡ 0) → all_hits p (strands k turns) ≡ 0
strands_none p zero turns none = strands_zero p turns
strands_none p (suc k) turns none = let rest = strands_none p k turns none in let a = strands_next p k turns in let one = none k in omega arith

pub rounds_hits : (p : ℕ) (turns : List (List Turn)) → all_hits p (flat_map (present SESSIONS) turns) ≡ all_hits p (strands SESSIONS (all_of turns))
rounds_hits p [] = sym (strands_none p SESSIONS [] (λ s. refl))
rounds_hits p (t ∷ turns) =
    let both = all-append p (present SESSIONS t) (flat_map (present SESSIONS) turns) in
    let one = present_hits p SESSIONS t in
    let rest = rounds_hits p turns in
    let all = strands-append p SESSIONS t (all_of turns) in
    omega arith

hit_flat : (p : ℕ) (r : Record) → r.altered ≡ false → hit p r ≡ 0
hit_flat p r e = rw e refl

hit_if : (a b : Bool) → b ≡ false → (cond (a && b) 1 0) ≡ zero
hit_if true false e = refl
hit_if false false e = refl
hit_if a true e = absurd (true≢false e)

pub hit_off : (p : ℕ) (r : Record) → r.at ≢ p → hit p r ≡ 0
hit_off p r ne = hit_if r.altered (eqb r.at p) (ne_eqb r.at p ne)

-- records that end by a clock alter nothing there or later
pub none_late : (q p k : ℕ) (s : List Record) → Rising k s → ends k s ≤ q → q ≤ p → hits p s ≡ 0
none_late q p k [] up far le = refl
none_late q p k (r ∷ rs) up far le =
    let rest = none_late q p (after r) rs up.1 far le in
    let low = ends_up (after r) rs up.1 in
    let one = first r.altered refl in
    omega arith
  where
    first : (b : Bool) → r.altered ≡ b → hit p r ≡ 0
    first true e =
        let w : weight r.altered ≡ 1 = ap weight e in
        let low' = ends_up (after r) rs up.1 in
        hit_off p r (λ same. omega arith)
    first false e = hit_flat p r e

-- records that rise from a clock alter nothing before
none_early : (q p : ℕ) (s : List Record) → Rising q s → p < q → hits p s ≡ 0
none_early q p [] up less = refl
none_early q p (r ∷ rs) up less =
    let low = up.0 in
    let one = hit_off p r (λ same. omega arith) in
    let rest = none_early (after r) p rs up.1 (omega arith) in
    omega arith

pub more_none : (q p : ℕ) (ss : List (List Record)) → AllRise q ss → p < q → all_hits p ss ≡ 0
more_none q p [] up less = refl
more_none q p (s ∷ ss) up less = let one = none_early q p s up.0 less in let rest = more_none q p ss up.1 less in omega arith

-- a history cut at a clock
pub once_cut : (p m : ℕ) (h : List Request) → p < m → once_below p (length h) ≡ once_below p (length (take m h))
once_cut p m h less =
    let l = length-take m h in
    dite (dec_lt p (length h))
    (λ in'. ap (λ b. cond b 1 0) (lt-ltb p (length h) in' ∙ sym (lt-ltb p (length (take m h)) (omega arith))))
    (λ out. ap (λ b. cond b 1 0) (le-ltb p (length h) (omega arith) ∙ sym (le-ltb p (length (take m h)) (omega arith))))

pub once_past : (p m : ℕ) (h : List Request) → m ≤ p → once_below p (length (take m h)) ≡ 0
once_past p m h le = let l = length-take m h in ap (λ b. cond b 1 0) (le-ltb p (length (take m h)) (omega arith))

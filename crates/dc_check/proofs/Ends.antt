-- Where calls end as the judge takes their stamps, and as the trees at their points tell.
use Rattle.std.proofs.Common.{◌≡◌, ℕ, suc, ◌+◌, ◌<◌, ◌≤◌, ◌==◌, ◌&&◌, Bool, true, false, cond, List, [], ◌∷◌, ◌++◌, Option, Some, None, map, find, refl, sym, ap, ◌∙◌, arith, append_assoc, add-one}
use Rattle.std.proofs.lemmas.Bool.Decides.{Decides-eqb}
use Rattle.dc_plain.specs.Runs.{tree_after, alters, clock_after}
use Rattle.dc_plain.specs.Trees.{Tree}
use Rattle.dc_plain.specs.Legal.{Stamp}
use Rattle.dc_check.specs.Judging.{Judge, is_change, IsGoodIf, IsGood, with_met, settled, Moves, ReachesIf, Passes, opening, span_in, spans_in}
use Rattle.dc_check.specs.Phases.{Phased, change_at, span_at, tree_at, tree_led}
use Rattle.dc_check.proofs.Stamps.{number_same, number_other}

find-front : {A : Type 0} (p : A → Bool) (xs ys : List A) (x : A) → find p xs ≡ Some x → find p (xs ++ ys) ≡ Some x
find-front p [] ys x e = cc
find-front p (y ∷ xs) ys x e = elim (p y) as (λ b. cond b (Some y) (find p xs) ≡ Some x → cond b (Some y) (find p (xs ++ ys)) ≡ Some x) [
  | true ↦ λ f. f
  | false ↦ λ f. find-front p xs ys x f
] e

find-behind : {A : Type 0} (p : A → Bool) (xs ys : List A) → find p xs ≡ None → find p (xs ++ ys) ≡ find p ys
find-behind p [] ys e = refl
find-behind p (y ∷ xs) ys e = elim (p y) as (λ b. cond b (Some y) (find p xs) ≡ None → cond b (Some y) (find p (xs ++ ys)) ≡ find p ys) [
  | true ↦ λ f. cc
  | false ↦ λ f. find-behind p xs ys f
] e

-- no stamp has a point above this one
abbrev AtMost : ℕ → List Stamp → Type 0
AtMost most [] = Unit {0}
AtMost most (s ∷ ss) = (s.at ≤ most) × AtMost most ss

at_most-more : (a b : ℕ) (ss : List Stamp) → a ≤ b → AtMost a ss → AtMost b ss
at_most-more a b [] le all = tt
at_most-more a b (s ∷ ss) le all = let first = all.0 in (omega arith, at_most-more a b ss le all.1)

at_most-push : (most : ℕ) (ss : List Stamp) (s : Stamp) → AtMost most ss → s.at ≤ most → AtMost most (ss ++ s ∷ [])
at_most-push most [] s all le = (le, tt)
at_most-push most (x ∷ ss) s all le = (all.0, at_most-push most ss s all.1 le)

none_later : (limit : ℕ) (t : Tree) (at most : ℕ) (ss : List Stamp) → AtMost most ss → most < at → change_at limit t at ss ≡ None
none_later limit t at most [] all less = refl
none_later limit t at most (s ∷ ss) all less =
    let first = all.0 in
    let apart : (s.at == at) ≡ false = number_other s.at at (λ e. omega arith) in
    ap (λ (b : Bool). cond (b && alters limit t s.request) (Some s) (change_at limit t at ss)) apart ∙ none_later limit t at most ss all.1 less

-- the stamp that alters the tree, once one more was met
met_alone : (limit : ℕ) (t : Tree) (at : ℕ) (s : Stamp) (b : Bool) → s.at ≡ at → alters limit t s.request ≡ b → change_at limit t at (s ∷ []) ≡ cond b (Some s) None
met_alone limit t at s b here is =
    let same : (s.at == at) ≡ true = ap (λ n. s.at == n) (sym here) ∙ number_same s.at in
    ap (λ (c : Bool). cond (c && alters limit t s.request) (Some s) None) same ∙ ap (λ (c : Bool). cond c (Some s) None) is

met_change : (limit : ℕ) (t : Tree) (at : ℕ) (done : List Stamp) (s : Stamp) (change : Option Stamp) (b : Bool) → change_at limit t at done ≡ change → s.at ≡ at → alters limit t s.request ≡ b → (b ≡ true → change ≡ None)
    → change_at limit t at (done ++ s ∷ []) ≡ cond b (Some s) change
met_change limit t at done s None b e here is none = find-behind _ done (s ∷ []) e ∙ met_alone limit t at s b here is
met_change limit t at done s (Some p) true e here is none = let other : Some p ≡ None = none refl in cc
met_change limit t at done s (Some p) false e here is none = find-front _ done (s ∷ []) p e

-- the judge has the tree of its point, and of the stamps so far the one that alters it
pub record Led (limit : ℕ) (all done : List Stamp) (judge : Judge) : Type 0 where
  pub limit_is : judge.limit ≡ limit
  pub tree_is : judge.tree ≡ tree_at limit all judge.clock
  pub change_is : change_at limit judge.tree judge.clock done ≡ judge.change
  pub past : AtMost judge.clock done

pub met_led : (limit : ℕ) (all done : List Stamp) (judge : Judge) (s : Stamp) → Led limit all done judge → s.at ≡ judge.clock → IsGood judge s → Led limit all (done ++ s ∷ []) (with_met judge s)
met_led limit all done judge s led here good = go (is_change judge s) refl good
  where
    past : AtMost judge.clock (done ++ s ∷ [])
    past = at_most-push judge.clock done s led.past (omega arith)

    alters_is : (b : Bool) → is_change judge s ≡ b → alters limit judge.tree s.request ≡ b
    alters_is b e = ap (λ (n : ℕ). alters n judge.tree s.request) (sym led.limit_is) ∙ e

    go : (b : Bool) → is_change judge s ≡ b → IsGoodIf b judge s → Led limit all (done ++ s ∷ []) (cond b (record judge { change = Some s }) judge)
    go true e none = record {
      limit_is = led.limit_is;
      tree_is = led.tree_is;
      change_is = met_change limit judge.tree judge.clock done s judge.change true led.change_is here (alters_is true e) (λ yes. none);
      past = past;
    }
    go false e passed = record {
      limit_is = led.limit_is;
      tree_is = led.tree_is;
      change_is = met_change limit judge.tree judge.clock done s judge.change false led.change_is here (alters_is false e) (λ yes. cc);
      past = past;
    }

-- from one point to the next the change led on
next_tree : (limit l : ℕ) (all done rest : List Stamp) (t : Tree) (clock at : ℕ) (p : Stamp) → l ≡ limit → t ≡ tree_at limit all clock → change_at limit t clock done ≡ Some p → all ≡ done ++ rest → at ≡ clock + 1
    → tree_after l t p.request ≡ tree_at limit all at
unfolding tree_at
next_tree limit l all done rest t clock at p same tree_is change split next =
    let here = ap (λ (u : Tree). change_at limit u clock done) (sym tree_is) ∙ change in
    let found : change_at limit (tree_at limit all clock) clock all ≡ Some p =
    ap (λ (ss : List Stamp). change_at limit (tree_at limit all clock) clock ss) split ∙ find-front _ done rest p here in
    let up : suc clock ≡ at = sym (next ∙ add-one clock) in
    ap (λ (n : ℕ). tree_after n t p.request) same ∙ ap (λ (u : Tree). tree_after limit u p.request) tree_is
    ∙ sym (ap (tree_led limit (tree_at limit all clock)) found) ∙ ap (tree_at limit all) up

pub moved_led : (limit : ℕ) (all done rest : List Stamp) (l : ℕ) (t : Tree) (clock : ℕ) (change : Option Stamp) (at : ℕ) → all ≡ done ++ rest
    → Led limit all done (record { limit = l; tree = t; clock = clock; change = change }) → Moves (record { limit = l; tree = t; clock = clock; change = change }) at
    → Led limit all done (record (settled (record { limit = l; tree = t; clock = clock; change = change })) { clock = at })
moved_led limit all done rest l t clock None at split led moves = absurd (moves.altered refl)
moved_led limit all done rest l t clock (Some p) at split led moves =
    let next = moves.next in record {
      limit_is = led.limit_is;
      tree_is = next_tree limit l all done rest t clock at p led.limit_is led.tree_is led.change_is split next;
      change_is = none_later limit (tree_after l t p.request) at clock done led.past (omega arith);
      past = at_most-more clock at done (omega arith) led.past;
    }

abbrev stamps_in : List Phased → List Stamp
stamps_in ps = map (λ p. p.stamp) ps

-- what the rest then is
abbrev Rest : ℕ → List Stamp → List Stamp → List Phased → Type 0
Rest limit all done ps = (next : Judge) → Led limit all done next → Passes (stamps_in ps) next → spans_in next ps ≡ map (span_at limit all) ps

ends_here : (limit : ℕ) (all done : List Stamp) (p : Phased) (ps : List Phased) → Rest limit all (done ++ p.stamp ∷ []) ps → (judge : Judge) → Led limit all done judge → p.stamp.at ≡ judge.clock → IsGood judge p.stamp
    → Passes (stamps_in ps) (with_met judge p.stamp) → span_in judge p ∷ spans_in (with_met judge p.stamp) ps ≡ map (span_at limit all) (p ∷ ps)
ends_here limit all done p ps rest judge led here good passes =
    let s = p.stamp in
    let tree = led.tree_is ∙ ap (tree_at limit all) (sym here) in
    let end = ap (λ (n : ℕ). clock_after n judge.tree s.request s.at) led.limit_is ∙ ap (λ (u : Tree). clock_after limit u s.request s.at) tree in
    let span : span_in judge p ≡ span_at limit all p = λ i. record { phase = p.phase; at = s.at; end = end i } in
    let more = rest (with_met judge s) (met_led limit all done judge s led here good) passes in
    λ i. span i ∷ more i

ends_step : (limit : ℕ) (all done : List Stamp) (p : Phased) (ps : List Phased) → Rest limit all (done ++ p.stamp ∷ []) ps → all ≡ done ++ stamps_in (p ∷ ps)
    → (judge : Judge) → Led limit all done judge → Passes (stamps_in (p ∷ ps)) judge → spans_in judge (p ∷ ps) ≡ map (span_at limit all) (p ∷ ps)
ends_step limit all done p ps rest split judge led is = go (p.stamp.at == judge.clock) refl is.0.0 is.0.1 is.1
  where
    next : Judge
    next = record (settled judge) { clock = p.stamp.at }

    go : (b : Bool) → (p.stamp.at == judge.clock) ≡ b → ReachesIf b judge p.stamp.at → IsGood (cond b judge (record (settled judge) { clock = p.stamp.at })) p.stamp
        → Passes (stamps_in ps) (with_met (cond b judge (record (settled judge) { clock = p.stamp.at })) p.stamp)
        → span_in (cond b judge (record (settled judge) { clock = p.stamp.at })) p ∷ spans_in (with_met (cond b judge (record (settled judge) { clock = p.stamp.at })) p.stamp) ps ≡ map (span_at limit all) (p ∷ ps)
    go true e reaches good passes = ends_here limit all done p ps rest judge led ((Decides-eqb p.stamp.at judge.clock).0 e) good passes
    go false e moves good passes =
        ends_here limit all done p ps rest (record (settled judge) { clock = p.stamp.at })
        (moved_led limit all done (stamps_in (p ∷ ps)) judge.limit judge.tree judge.clock judge.change p.stamp.at split led moves) refl good passes

ends_from : (limit : ℕ) (all done : List Stamp) (ps : List Phased) → all ≡ done ++ stamps_in ps → Rest limit all done ps
ends_from limit all done [] split judge led passes = refl
ends_from limit all done (p ∷ ps) split judge led passes =
    ends_step limit all done p ps (ends_from limit all (done ++ p.stamp ∷ []) ps (split ∙ sym (append_assoc done (p.stamp ∷ []) (stamps_in ps)))) split judge led passes

-- the trees at their points tell where the calls of stamps end that pass
pub ends_are : (limit : ℕ) (ps : List Phased) → Passes (map (λ p. p.stamp) ps) (opening limit) → spans_in (opening limit) ps ≡ map (span_at limit (map (λ p. p.stamp) ps)) ps
unfolding tree_at
ends_are limit ps passes = ends_from limit (stamps_in ps) [] ps refl (opening limit) (record { limit_is = refl; tree_is = refl; change_is = refl; past = tt }) passes

-- Stamps that stand in a legal order pass.
use Rattle.std.proofs.Common.{◌≡◌, ◌≢◌, ℕ, ◌+◌, ◌<◌, ◌≤◌, ◌==◌, Bool, true, false, cond, List, [], ◌∷◌, ◌++◌, Option, Some, None, option_to_list, refl, sym, ap, ◌∙◌, subst, inl, inr, arith}
use Rattle.std.proofs.lemmas.Bool.Decides.{Decides-eqb, eqb_tells}
use Rattle.dc_plain.specs.LivingLaws.{SameTreeDecides}
use Rattle.dc_plain.specs.Trees.{Tree}
use Rattle.dc_plain.specs.Runs.{tree_after, alters}
use Rattle.dc_plain.specs.Legal.{Stamp, IsRun, of_actor}
use Rattle.dc_check.specs.Judging.{Rises, Judge, is_change, IsAnswered, IsAnothers, IsGoodIf, IsGood, with_met, IsSettledBy, settled, Moves, ReachesIf, Passes}
use Rattle.dc_check.proofs.Orders.{later, stands, alone, once, without_first, shorter_own, shorter_other, shorter_run}
use Rattle.dc_check.proofs.Stamps.{clock_more, of_actor-own, of_actor-at, of_actor-other, of_actor-rest, of_actor-cons, Among, among_kept, number_apart}
use Rattle.dc_check.proofs.Sound.{judge_at, Fits, fits_met, left, Run}

-- the change met is before the stamps of its actor, and doesn't matter to others'
left_own : (change : Option Stamp) (s : Stamp) (ss : List Stamp) → IsAnothers change s → of_actor s.actor (option_to_list change ++ s ∷ ss) ≡ s ∷ of_actor s.actor (option_to_list change ++ ss)
left_own None s ss apart = of_actor-own s ss
left_own (Some p) s ss apart = of_actor-other s.actor p (s ∷ ss) apart ∙ of_actor-own s ss ∙ ap (λ rest. s ∷ rest) (sym (of_actor-other s.actor p ss apart))

left_other : (n : ℕ) (change : Option Stamp) (s : Stamp) (ss : List Stamp) → s.actor ≢ n → of_actor n (option_to_list change ++ s ∷ ss) ≡ of_actor n (option_to_list change ++ ss)
left_other n None s ss apart = of_actor-other n s ss apart
left_other n (Some p) s ss apart = of_actor-cons n p (s ∷ ss) ss (of_actor-other n s ss apart)

among_left : (change : Option Stamp) (s : Stamp) (ss : List Stamp) → Among s (option_to_list change ++ s ∷ ss)
among_left None s ss = inl refl
among_left (Some p) s ss = inr (inl refl)

-- a stamp at the judge's point is good, and the rest stands in an order
record Met (judge : Judge) (s : Stamp) (ss : List Stamp) : Type 0 where
  pub good : IsGood judge s
  pub rest : Run (with_met judge s) ss

no_change : SameTreeDecides → (limit : ℕ) (t : Tree) (clock : ℕ) (change : Option Stamp) (s : Stamp) (ss : List Stamp) → Fits (judge_at limit t clock change) → (run : Run (judge_at limit t clock change) (s ∷ ss))
    → s.at ≡ clock → alters limit t s.request ≡ true → change ≡ None
no_change decides limit t clock None s ss fits run here e = refl
no_change decides limit t clock (Some p) s ss fits run here e = elim (eqb_tells p.actor s.actor) [
  | inl own ↦ absurd (alone decides limit t clock run.order run.run p.actor p s (of_actor p.actor ss)
      (run.kept p.actor ∙ of_actor-own p (s ∷ ss) ∙ ap (λ rest. p ∷ rest) (of_actor-at p.actor s ss (sym own.1))) fits.1 fits.0 here)
  | inr other ↦ absurd (once decides limit t clock run.order run.run p s
      (among_kept (p ∷ s ∷ ss) run.order (λ n. sym (run.kept n)) p (inl refl)) (among_kept (p ∷ s ∷ ss) run.order (λ n. sym (run.kept n)) s (inr (inl refl)))
      (number_apart p.actor s.actor other.0) fits.1 e fits.0 here)
]

anothers : SameTreeDecides → (limit : ℕ) (t : Tree) (clock : ℕ) (change : Option Stamp) (s : Stamp) (ss : List Stamp) → Fits (judge_at limit t clock change) → (run : Run (judge_at limit t clock change) (s ∷ ss))
    → s.at ≡ clock → IsAnothers change s
anothers decides limit t clock None s ss fits run here = tt
anothers decides limit t clock (Some p) s ss fits run here = λ own. alone decides limit t clock run.order run.run p.actor p s (of_actor p.actor ss)
    (run.kept p.actor ∙ of_actor-own p (s ∷ ss) ∙ ap (λ rest. p ∷ rest) (of_actor-at p.actor s ss (sym own))) fits.1 fits.0 here

met : SameTreeDecides → (judge : Judge) (s : Stamp) (ss : List Stamp) → Fits judge → s.at ≡ judge.clock → Run judge (s ∷ ss) → Met judge s ss
met decides judge s ss fits here run = go (is_change judge s) refl
  where
    answered : IsAnswered judge s
    answered = stands decides judge.limit judge.tree judge.clock run.order run.run s (among_kept (left judge (s ∷ ss)) run.order (λ n. sym (run.kept n)) s (among_left judge.change s ss)) here

    apart : IsAnothers judge.change s
    apart = anothers decides judge.limit judge.tree judge.clock judge.change s ss fits run here

    own : of_actor s.actor run.order ≡ s ∷ of_actor s.actor (left judge ss)
    own = run.kept s.actor ∙ left_own judge.change s ss apart

    kept : (n : ℕ) → of_actor n (without_first s.actor run.order) ≡ of_actor n (left judge ss)
    kept n = elim (eqb_tells n s.actor) [
      | inl same ↦ subst (λ m. of_actor m (without_first s.actor run.order) ≡ of_actor m (left judge ss)) (sym same.1)
          (shorter_own s.actor run.order s (of_actor s.actor (left judge ss)) own)
      | inr other ↦ (let not_same : n ≢ s.actor = λ e. number_apart n s.actor other.0 e in
          shorter_other n s.actor run.order not_same ∙ run.kept n ∙ left_other n judge.change s ss (λ e. not_same (sym e)))
    ]

    good_by : (b : Bool) → is_change judge s ≡ b → IsGoodIf b judge s
    good_by true e = no_change decides judge.limit judge.tree judge.clock judge.change s ss fits run here e
    good_by false e = (answered, apart)

    rest_by : (b : Bool) → is_change judge s ≡ b → Run (cond b (record judge { change = Some s }) judge) ss
    rest_by true e = record {
      order = run.order;
      kept = λ n. run.kept n ∙ ap (λ change. of_actor n (option_to_list change ++ s ∷ ss)) (good_by true e);
      run = run.run;
    }
    rest_by false e = record {
      order = without_first s.actor run.order;
      kept = kept;
      run = shorter_run decides judge.limit judge.tree judge.clock run.order run.run s.actor s (of_actor s.actor (left judge ss)) own here e;
    }

    go : (b : Bool) → is_change judge s ≡ b → Met judge s ss
    go b e = record { good = good_by (is_change judge s) refl; rest = rest_by (is_change judge s) refl }

-- what is among stamps whose points rise isn't below the first
least : (low : ℕ) (ss : List Stamp) → Rises low ss → (x : Stamp) → Among x ss → low ≤ x.at
least low [] up x a = absurd a
least low (s ∷ ss) up x (inl here) = let same : s.at ≡ x.at = ap (λ (z : Stamp). z.at) here in let first = up.0 in omega arith
least low (s ∷ ss) up x (inr more) = let after = least s.at ss up.1 x more in let first = up.0 in omega arith

-- if no change was met, the first stamp is at the judge's point
first_here : (limit : ℕ) (t : Tree) (clock : ℕ) (s : Stamp) (ss : List Stamp) (order : List Stamp) → ((n : ℕ) → of_actor n order ≡ of_actor n (s ∷ ss)) → IsRun limit t clock order → Rises s.at ss → s.at ≡ clock
first_here limit t clock s ss [] kept run up = absurd (among_kept (s ∷ ss) [] (λ n. sym (kept n)) s (inl refl))
first_here limit t clock s ss (y ∷ ys) kept run up =
    let low = later limit t clock (y ∷ ys) run s (among_kept (s ∷ ss) (y ∷ ys) (λ n. sym (kept n)) s (inl refl)) in
    let self : s.at ≤ s.at = omega arith in
    let high = least s.at (s ∷ ss) (self, up) y (among_kept (y ∷ ys) (s ∷ ss) kept y (inl refl)) in
    let here = run.0 in omega arith

-- if one was met and the next stamp is later, it comes first
record Changed (limit : ℕ) (t : Tree) (clock : ℕ) (p s : Stamp) (ss : List Stamp) : Type 0 where
  pub moves : Moves (judge_at limit t clock (Some p)) s.at
  pub rest : Run (judge_at limit (tree_after limit t p.request) s.at None) (s ∷ ss)

changed : (limit : ℕ) (t : Tree) (clock : ℕ) (p s : Stamp) (ss : List Stamp) (order : List Stamp) → Fits (judge_at limit t clock (Some p)) → ((n : ℕ) → of_actor n order ≡ of_actor n (p ∷ s ∷ ss))
    → IsRun limit t clock order → Rises s.at ss → clock < s.at → Changed limit t clock p s ss
changed limit t clock p s ss [] fits kept run up after = absurd (among_kept (p ∷ s ∷ ss) [] (λ n. sym (kept n)) p (inl refl))
changed limit t clock p s ss (y ∷ ys) fits kept run up after =
    let self : s.at ≤ s.at = omega arith in
    let is : y ≡ p = elim (among_kept (y ∷ ys) (p ∷ s ∷ ss) kept y (inl refl)) [
      | inl same ↦ sym same
      | inr more ↦ (let high = least s.at (s ∷ ss) (self, up) y more in let here = run.0 in absurd (omega arith))
    ] in
    let rest_kept : (n : ℕ) → of_actor n ys ≡ of_actor n (s ∷ ss) = λ n. of_actor-rest n p ys (s ∷ ss) (ap (λ z. of_actor n (z ∷ ys)) (sym is) ∙ kept n) in
    let first = subst (λ z. IsRun limit t clock (z ∷ ys)) is run in
    let rest : IsRun limit (tree_after limit t p.request) (clock + 1) ys = subst (λ c. IsRun limit (tree_after limit t p.request) c ys) (clock_more limit t p.request clock fits.1) first.2 in
    let next = first_here limit (tree_after limit t p.request) (clock + 1) s ss ys rest_kept rest up in
    record {
      moves = record { altered = λ e. cc; is_settled = first.1; next = next };
      rest = record { order = ys; kept = rest_kept; run = subst (λ c. IsRun limit (tree_after limit t p.request) c ys) (sym next) rest };
    }

is_settled : SameTreeDecides → (limit : ℕ) (t : Tree) (clock : ℕ) (change : Option Stamp) → Fits (judge_at limit t clock change) → Run (judge_at limit t clock change) [] → IsSettledBy change (judge_at limit t clock change)
is_settled decides limit t clock None fits run = tt
is_settled decides limit t clock (Some p) fits run = stands decides limit t clock run.order run.run p (among_kept (p ∷ []) run.order (λ n. sym (run.kept n)) p (inl refl)) fits.0

clock_stays : (j : Judge) (x : Stamp) → j.clock ≡ (with_met j x).clock
clock_stays j x = by (is_change j x)
  where
    by : (b : Bool) → j.clock ≡ (cond b (record j { change = Some x }) j).clock
    by true = refl
    by false = refl

passed : SameTreeDecides → (s : Stamp) (ss : List Stamp) → ((next : Judge) → Fits next → Rises next.clock ss → Run next ss → Passes ss next) → Rises s.at ss
    → (next : Judge) → Fits next → s.at ≡ next.clock → Run next (s ∷ ss) → IsGood next s × Passes ss (with_met next s)
passed decides s ss on up next suits here rest =
    let m = met decides next s ss suits here rest in
    (m.good, on (with_met next s) (fits_met next s suits here) (subst (λ c. Rises c ss) (here ∙ clock_stays next s) up) m.rest)

moving : (limit : ℕ) (t : Tree) (clock : ℕ) (change : Option Stamp) (s : Stamp) (ss : List Stamp) → Fits (judge_at limit t clock change) → Run (judge_at limit t clock change) (s ∷ ss) → Rises clock (s ∷ ss) → (s.at ≡ clock → ⊥)
    → Moves (judge_at limit t clock change) s.at × Run (record (settled (judge_at limit t clock change)) { clock = s.at }) (s ∷ ss)
moving limit t clock None s ss suits rest rising apart = absurd (apart (first_here limit t clock s ss rest.order rest.kept rest.run rising.1))
moving limit t clock (Some p) s ss suits rest rising apart =
    let low = rising.0 in
    let c = changed limit t clock p s ss rest.order suits rest.kept rest.run rising.1 (omega arith) in (c.moves, c.rest)

complete_step : SameTreeDecides → (s : Stamp) (ss : List Stamp) → ((next : Judge) → Fits next → Rises next.clock ss → Run next ss → Passes ss next)
    → (judge : Judge) → Fits judge → Rises judge.clock (s ∷ ss) → Run judge (s ∷ ss) → Passes (s ∷ ss) judge
complete_step decides s ss on judge fits up run = go (s.at == judge.clock) refl
  where
    go : (b : Bool) → (s.at == judge.clock) ≡ b → (ReachesIf b judge s.at × IsGood (cond b judge (record (settled judge) { clock = s.at })) s)
        × Passes ss (with_met (cond b judge (record (settled judge) { clock = s.at })) s)
    go true e = let p = passed decides s ss on up.1 judge fits ((Decides-eqb s.at judge.clock).0 e) run in ((tt, p.0), p.1)
    go false e =
        let apart : s.at ≢ judge.clock = number_apart s.at judge.clock e in
        let m = moving judge.limit judge.tree judge.clock judge.change s ss fits run up apart in
        let p = passed decides s ss on up.1 (record (settled judge) { clock = s.at }) tt refl m.1 in ((m.0, p.0), p.1)

pub complete : SameTreeDecides → (stamps : List Stamp) (judge : Judge) → Fits judge → Rises judge.clock stamps → Run judge stamps → Passes stamps judge
complete decides [] judge fits up run = is_settled decides judge.limit judge.tree judge.clock judge.change fits run
complete decides (s ∷ ss) judge fits up run = complete_step decides s ss (λ next suits rising rest. complete decides ss next suits rising rest) judge fits up run

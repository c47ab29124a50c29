-- Stamps that pass are a run in some order that keeps each actor's.
use Rattle.std.proofs.Common.{◌≡◌, ℕ, ◌==◌, Bool, true, false, cond, List, [], ◌∷◌, ◌++◌, Option, Some, None, option_to_list, refl, sym, ap, ◌∙◌, subst}
use Rattle.std.proofs.lemmas.Bool.Decides.{Decides-eqb}
use Rattle.dc_plain.specs.LivingLaws.{SameTreeDecides}
use Rattle.dc_plain.specs.Trees.{Tree}
use Rattle.dc_plain.specs.Runs.{tree_after}
use Rattle.dc_plain.specs.Legal.{Stamp, IsRun, of_actor}
use Rattle.dc_check.specs.Judging.{Judge, is_change, IsAnothers, IsGoodIf, IsGood, with_met, IsSettled, settled, Moves, ReachesIf, Passes}
use Rattle.dc_check.proofs.Stamps.{clock_more, run_behind, of_actor-cons, of_actor-swap}

abbrev pub judge_at : ℕ → Tree → ℕ → Option Stamp → Judge
judge_at limit t clock change = record { limit = limit; tree = t; clock = clock; change = change }

-- the change stands at the judge's point and alters its tree
abbrev pub FitsBy : Option Stamp → Judge → Type 0
FitsBy None judge = Unit {0}
FitsBy (Some change) judge = (change.at ≡ judge.clock) × (is_change judge change ≡ true)

abbrev pub Fits : Judge → Type 0
Fits judge = FitsBy judge.change judge

-- the change that was met, before the stamps that are left
abbrev pub left : Judge → List Stamp → List Stamp
left judge stamps = option_to_list judge.change ++ stamps

pub record Run (judge : Judge) (stamps : List Stamp) : Type 0 where
  pub order : List Stamp
  pub kept : (actor : ℕ) → of_actor actor order ≡ of_actor actor (left judge stamps)
  pub run : IsRun judge.limit judge.tree judge.clock order

pub fits_met : (judge : Judge) (s : Stamp) → Fits judge → s.at ≡ judge.clock → Fits (with_met judge s)
fits_met judge s fits here = go (is_change judge s) refl
  where
    go : (b : Bool) → is_change judge s ≡ b → Fits (cond b (record judge { change = Some s }) judge)
    go true e = (here, e)
    go false e = fits

swapped : (change : Option Stamp) (s : Stamp) (ss : List Stamp) → IsAnothers change s → (n : ℕ) → of_actor n (s ∷ option_to_list change ++ ss) ≡ of_actor n (option_to_list change ++ s ∷ ss)
swapped None s ss apart n = refl
swapped (Some p) s ss apart n = of_actor-swap n s p ss apart

met_run : SameTreeDecides → (judge : Judge) (s : Stamp) (ss : List Stamp) → s.at ≡ judge.clock → IsGood judge s → Run (with_met judge s) ss → Run judge (s ∷ ss)
met_run decides judge s ss here good rest = go (is_change judge s) refl good rest
  where
    go : (b : Bool) → is_change judge s ≡ b → IsGoodIf b judge s → Run (cond b (record judge { change = Some s }) judge) ss → Run judge (s ∷ ss)
    go true e none run = record {
      order = run.order;
      kept = λ n. run.kept n ∙ ap (λ change. of_actor n (option_to_list change ++ s ∷ ss)) (sym none);
      run = run.run;
    }
    go false e is run = record {
      order = s ∷ run.order;
      kept = λ n. of_actor-cons n s run.order (left judge ss) (run.kept n) ∙ swapped judge.change s ss is.1 n;
      run = (here, is.0, run_behind decides judge.limit judge.tree judge.clock s run.order e run.run);
    }

-- the change comes before all that is left
moved_run : (limit : ℕ) (t : Tree) (clock : ℕ) (change : Option Stamp) (ss : List Stamp) (at : ℕ) → Fits (judge_at limit t clock change) → Moves (judge_at limit t clock change) at
    → Run (record (settled (judge_at limit t clock change)) { clock = at }) ss → Run (judge_at limit t clock change) ss
moved_run limit t clock None ss at fits moves rest = absurd (moves.altered refl)
moved_run limit t clock (Some p) ss at fits moves rest = record {
  order = p ∷ rest.order;
  kept = λ n. of_actor-cons n p rest.order ss (rest.kept n);
  run = (fits.0, moves.is_settled, subst (λ c. IsRun limit (tree_after limit t p.request) c rest.order) (moves.next ∙ sym (clock_more limit t p.request clock fits.1)) rest.run);
}

ended : (limit : ℕ) (t : Tree) (clock : ℕ) (change : Option Stamp) → Fits (judge_at limit t clock change) → IsSettled (judge_at limit t clock change) → Run (judge_at limit t clock change) []
ended limit t clock None fits is = record { order = []; kept = λ n. refl; run = tt }
ended limit t clock (Some p) fits is = record { order = p ∷ []; kept = λ n. refl; run = (fits.0, is, tt) }

sound_step : SameTreeDecides → (s : Stamp) (ss : List Stamp) → ((next : Judge) → Fits next → Passes ss next → Run next ss) → (judge : Judge) → Fits judge → Passes (s ∷ ss) judge → Run judge (s ∷ ss)
sound_step decides s ss rest judge fits is = go (s.at == judge.clock) refl is.0.0 is.0.1 is.1
  where
    go : (b : Bool) → (s.at == judge.clock) ≡ b → ReachesIf b judge s.at → IsGood (cond b judge (record (settled judge) { clock = s.at })) s
        → Passes ss (with_met (cond b judge (record (settled judge) { clock = s.at })) s) → Run judge (s ∷ ss)
    go true e reaches good passes =
        let here = (Decides-eqb s.at judge.clock).0 e in
        met_run decides judge s ss here good (rest (with_met judge s) (fits_met judge s fits here) passes)
    go false e moves good passes =
        let next : Judge = record (settled judge) { clock = s.at } in
        moved_run judge.limit judge.tree judge.clock judge.change (s ∷ ss) s.at fits moves
        (met_run decides next s ss refl good (rest (with_met next s) (fits_met next s tt refl) passes))

pub sound : SameTreeDecides → (stamps : List Stamp) (judge : Judge) → Fits judge → Passes stamps judge → Run judge stamps
sound decides [] judge fits is = ended judge.limit judge.tree judge.clock judge.change fits is
sound decides (s ∷ ss) judge fits is = sound_step decides s ss (λ next suits passes. sound decides ss next suits passes) judge fits is

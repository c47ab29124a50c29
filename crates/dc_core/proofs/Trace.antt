-- Each record of a run lies in the span of its call: a begin, a point at which the clock is the record's, and an end.
use Rattle.std.proofs.Common.{◌≡◌, ℕ, zero, suc, ◌<◌, ◌≤◌, ◌⊎◌, true, false, List, [], ◌∷◌, ◌++◌, length, refl, sym, ap, ◌∙◌, subst, arith, inl, inr, ⊎_elim, true≢false, length-append, le_refl, take_all}
use Rattle.std.proofs.lemmas.List.{take-append-le}
use mathlib.Core.Logic.{dite}
use mathlib.Core.Option.{some, some-injective}
use native.Mathlib.Decide.{dec_lt}
use lib.ListN.{get_elem?}
use Rattle.dc_events.specs.Views.{Walk}
use Rattle.dc_core.specs.Machine.{State, Act, Event, Finished, after, after_all, clock_of}
use Rattle.dc_core.specs.Machine.Act.{Begin, Commit, Give, Pivot}
use Rattle.dc_core.specs.Spans.{before, clock_before, Does, Makes, Spanned, moves_call, moves_pivot}
use Rattle.dc_core.proofs.Seats.{within_list}
use Rattle.atomic_table.proofs.Lists.{at_longer, at_last}

pub after_snoc : (s : State) (es : List Event) (e : Event) → after_all s (es ++ e ∷ []) ≡ after (after_all s es) e
after_snoc s [] e = refl
after_snoc s (x ∷ xs) e = after_snoc (after s x) xs e

pub before_more : (s : State) (es : List Event) (e : Event) (k : ℕ) → k ≤ length es → before s (es ++ e ∷ []) k ≡ before s es k
before_more s es e k le = ap (after_all s) (take-append-le k es (e ∷ []) le)

pub before_end : (s : State) (es : List Event) (e : Event) → before s (es ++ e ∷ []) (length es) ≡ after_all s es
before_end s es e = before_more s es e (length es) (le_refl (length es)) ∙ ap (after_all s) (take_all (length es) es (le_refl (length es)))

pub before_all : (s : State) (es : List Event) (e : Event) → before s (es ++ e ∷ []) (suc (length es)) ≡ after (after_all s es) e
before_all s es e = let l = length-append es (e ∷ []) in ap (after_all s) (take_all (suc (length es)) (es ++ e ∷ []) (omega arith)) ∙ after_snoc s es e

pub does_more : (es : List Event) (e : Event) (k a : ℕ) (act : Act) → Does es k a act → Does (es ++ e ∷ []) k a act
does_more es e k a act d = at_longer es (e ∷ []) k (record { actor = a; act = act }) d

shorter : {A : Type 0} (l m : List A) (i : ℕ) (x : A) → i < length l → get_elem? (l ++ m) i ≡ some x → get_elem? l i ≡ some x
shorter [] m i x less e = absurd (omega arith)
shorter (y ∷ ys) m zero x less e = e
shorter (y ∷ ys) m (suc i) x less e = shorter ys m i x (omega arith) e

-- an item of a list with one more
pub in_snoc : {A : Type 0} (l : List A) (x y : A) (i : ℕ) → get_elem? (l ++ x ∷ []) i ≡ some y → (get_elem? l i ≡ some y) ⊎ ((i ≡ length l) × (x ≡ y))
in_snoc l x y i at = dite (dec_lt i (length l)) (λ less. inl (shorter l (x ∷ []) i y less at))
    (λ more. let w = within_list (l ++ x ∷ []) i y at in let n = length-append l (x ∷ []) in let here : i ≡ length l = omega arith in
    inr (here, some-injective x y (sym (at_last l x (length l) refl) ∙ ap (get_elem? (l ++ x ∷ [])) (sym here) ∙ at)))

module _ (s : State) (es : List Event) (e : Event) where
  makes_more : (k m : ℕ) (f : Finished) → k < length es → Makes s es k m f → Makes s (es ++ e ∷ []) k m f
  makes_more k m f less made = (ap (λ (t : State). length t.finished) (before_more s es e k (omega arith)) ∙ made.0, ap (λ (t : State). get_elem? t.finished m) (before_more s es e (suc k) (omega arith)) ∙ made.1)

  pub makes_less : (k m : ℕ) (f : Finished) → k < length es → Makes s (es ++ e ∷ []) k m f → Makes s es k m f
  makes_less k m f less made = (ap (λ (t : State). length t.finished) (sym (before_more s es e k (omega arith))) ∙ made.0, ap (λ (t : State). get_elem? t.finished m) (sym (before_more s es e (suc k) (omega arith))) ∙ made.1)

  makes_now : (m : ℕ) (f : Finished) → Makes s (es ++ e ∷ []) (length es) m f → get_elem? (after (after_all s es) e).finished (length (after_all s es).finished) ≡ some f
  makes_now m f made = ap (λ n. get_elem? (after (after_all s es) e).finished n) (sym (ap (λ (t : State). length t.finished) (before_end s es e)) ∙ made.0) ∙ (ap (λ (t : State). get_elem? t.finished m) (sym (before_all s es e)) ∙ made.1)

  pub does_less : (k a : ℕ) (act : Act) → k < length es → Does (es ++ e ∷ []) k a act → Does es k a act
  does_less k a act less d = shorter es (e ∷ []) k (record { actor = a; act = act }) less d

  -- a span stays one as the list of events grows
  pub spanned_more : (m : ℕ) (f : Finished) → Spanned s es m f → Spanned s (es ++ e ∷ []) m f
  spanned_more m f p = let b = p.between in let low = b.0 in let mid = b.1 in let high = b.2 in let l = length-append es (e ∷ []) in record {
    start = p.start;
    point = p.point;
    end = p.end;
    between = (low, mid, omega arith);
    begins = does_more es e p.start f.actor (Begin f.call) p.begins;
    last = λ k act lo hi d. p.last k act lo hi (does_less k f.actor act (omega arith) d);
    once = λ k n g lo hi made. p.once k n g lo hi (makes_less k n g (omega arith) made);
    acts = ⊎_elim (λ (c : Does es p.point f.actor Commit × (p.end ≡ p.point)). inl (does_more es e p.point f.actor _ c.0, c.1))
        (λ r. inr (⊎_elim (λ (c : Does es p.point f.actor (Give true) × (p.end ≡ p.point)). inl (does_more es e p.point f.actor _ c.0, c.1))
        (λ (c : Does es p.point f.actor Pivot). inr (does_more es e p.point f.actor Pivot c)) r)) p.acts;
    stays = λ k act lo hi d. p.stays k act lo hi (does_less k f.actor act (omega arith) d);
    timed = p.timed ∙ sym (ap clock_of (before_more s es e p.point (omega arith)));
    made = makes_more p.end m f high p.made;
  }

-- where the pivot of an actor was made, which is its pivot since
pub record Turned (s : State) (es : List Event) (actor start pivot : ℕ) : Type 0 where
  pub point : ℕ
  pub later : start < point
  pub here : Does es point actor Pivot
  pub timed : pivot ≡ clock_before s es point
  pub stays : (k : ℕ) (act : Act) → point < k → Does es k actor act → moves_pivot act ≡ false

-- the unanswered call of an actor, which began here
pub record Opened (s : State) (es : List Event) (actor start : ℕ) (w : Walk) : Type 0 where
  pub begins : Does es start actor (Begin w.call)
  pub last : (k : ℕ) (act : Act) → start < k → Does es k actor act → moves_call act ≡ false
  pub turned : w.pivoted ≡ true → Turned s es actor start w.pivot

-- no record of the actor was made since
abbrev pub Unanswered : State → List Event → ℕ → ℕ → Type 0
Unanswered s es actor start = (k n : ℕ) (g : Finished) → start < k → k < length es → Makes s es k n g → g.actor ≡ actor → ⊥

-- what an event makes of an actor's pivot: it stays, or it is a pivot
abbrev pub PivotOn : State → Event → ℕ → Walk → Walk → Type 0
PivotOn t e a w w' = ((w.pivoted ≡ true) × (w'.pivot ≡ w.pivot) × ((act : Act) → e ≡ record { actor = a; act = act } → moves_pivot act ≡ false)) ⊎ ((e ≡ record { actor = a; act = Pivot }) × (w'.pivot ≡ clock_of t))

module _ (s : State) (es : List Event) (e : Event) where
  pub at_end : (k a : ℕ) (act : Act) → Does (es ++ e ∷ []) k a act → Does es k a act ⊎ ((k ≡ length es) × (e ≡ record { actor = a; act = act }))
  at_end k a act d = in_snoc es e (record { actor = a; act = act }) k d

  -- nor is one made by this event
  pub unanswered_more : (a start : ℕ) → ((g : Finished) → get_elem? (after (after_all s es) e).finished (length (after_all s es).finished) ≡ some g → g.actor ≡ a → ⊥) → Unanswered s es a start → Unanswered s (es ++ e ∷ []) a start
  unanswered_more a start none old k n g lo hi made = let l = length-append es (e ∷ []) in dite (dec_lt k (length es)) (λ less. old k n g lo less (makes_less s es e k n g less made))
      (λ more. let here : k ≡ length es = omega arith in none g (makes_now s es e n g (subst (λ i. Makes s (es ++ e ∷ []) i n g) here made)))

  pub unanswered_now : (a : ℕ) → Unanswered s (es ++ e ∷ []) a (length es)
  unanswered_now a k n g lo hi made = let l = length-append es (e ∷ []) in absurd (omega arith)

  turned_on : (a start p p' : ℕ) → p' ≡ p → ((act : Act) → e ≡ record { actor = a; act = act } → moves_pivot act ≡ false) → Turned s es a start p → Turned s (es ++ e ∷ []) a start p'
  turned_on a start p p' same quiet t = let less = within_list es t.point (record { actor = a; act = Pivot }) t.here in record {
    point = t.point;
    later = t.later;
    here = does_more es e t.point a Pivot t.here;
    timed = same ∙ t.timed ∙ sym (ap clock_of (before_more s es e t.point (omega arith)));
    stays = λ k act lo d. ⊎_elim (λ (h : Does es k a act). t.stays k act lo h) (λ (h : (k ≡ length es) × (e ≡ record { actor = a; act = act })). quiet act h.1) (at_end k a act d);
  }

  turned_now : (a start p : ℕ) → start < length es → e ≡ record { actor = a; act = Pivot } → p ≡ clock_of (after_all s es) → Turned s (es ++ e ∷ []) a start p
  turned_now a start p later is now = record {
    point = length es;
    later = later;
    here = at_last es e (length es) refl ∙ ap some is;
    timed = now ∙ sym (ap clock_of (before_end s es e));
    stays = λ k act lo d. let less = within_list (es ++ e ∷ []) k (record { actor = a; act = act }) d in let l = length-append es (e ∷ []) in absurd (omega arith);
  }

  -- a walk that goes on
  pub opened_more : (a start : ℕ) (w w' : Walk) → ((act : Act) → e ≡ record { actor = a; act = act } → moves_call act ≡ false) → w'.call ≡ w.call
      → (w'.pivoted ≡ true → PivotOn (after_all s es) e a w w') → Opened s es a start w → Opened s (es ++ e ∷ []) a start w'
  opened_more a start w w' other same pivots o = let st = within_list es start (record { actor = a; act = Begin w.call }) o.begins in record {
    begins = subst (λ c. Does (es ++ e ∷ []) start a (Begin c)) (sym same) (does_more es e start a (Begin w.call) o.begins);
    last = λ k act lo d. ⊎_elim (λ (h : Does es k a act). o.last k act lo h) (λ (h : (k ≡ length es) × (e ≡ record { actor = a; act = act })). other act h.1) (at_end k a act d);
    turned = λ t. ⊎_elim (λ (h : (w.pivoted ≡ true) × (w'.pivot ≡ w.pivot) × ((act : Act) → e ≡ record { actor = a; act = act } → moves_pivot act ≡ false)). turned_on a start w.pivot w'.pivot h.1 h.2 (o.turned h.0))
        (λ (h : (e ≡ record { actor = a; act = Pivot }) × (w'.pivot ≡ clock_of (after_all s es))). turned_now a start w'.pivot st h.0 h.1) (pivots t);
  }

  pub opened_now : (a : ℕ) (w : Walk) → e ≡ record { actor = a; act = Begin w.call } → w.pivoted ≡ false → Opened s (es ++ e ∷ []) a (length es) w
  opened_now a w is fresh = record {
    begins = at_last es e (length es) refl ∙ ap some is;
    last = λ k act lo d. let less = within_list (es ++ e ∷ []) k (record { actor = a; act = act }) d in let l = length-append es (e ∷ []) in absurd (omega arith);
    turned = λ t. absurd (true≢false (sym t ∙ fresh));
  }

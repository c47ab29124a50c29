-- A list of events that were done one after the other.
use Rattle.std.proofs.Common.{◌≡◌, ℕ, zero, suc, ◌+◌, ◌<◌, ◌≤◌, List, [], ◌∷◌, length, take, map, get_or, None, refl, sym, ap, ◌∙◌, subst, arith}
use mathlib.Core.Option.{some, some-injective, some-ne-none}
use lib.ListN.{get_elem?}
use Rattle.dc_core.specs.Machine.{State, Event, after, after_all}
use Rattle.dc_core.specs.Refusals.{Answers}
use Rattle.dc_core.specs.Listed.{AllDone, AreSpanned, IsNew, StopsFor}
use Rattle.dc_core.specs.Shown.{event_shown}
use Rattle.dc_core.specs.declared.event.Event as rust_event
use Rattle.dc_core.specs.declared.refused.Refused as rust_refused
use Rattle.dc_core.specs.Memory.{RefusedAs}
use Rattle.dc_core.proofs.Traces.{Traced}
use Rattle.dc_core.proofs.Whole.{traced_all}
use Rattle.dc_core.proofs.Opening.{opening_traced}

-- one event more
pub all_more : (s : State) (es : List Event) (i : ℕ) (e : Event) → get_elem? es i ≡ some e → after_all s (take (suc i) es) ≡ after (after_all s (take i es)) e
all_more s [] i e at = absurd (some-ne-none e (sym at))
all_more s (x ∷ xs) zero e at = ap (after s) (some-injective x e at)
all_more s (x ∷ xs) (suc i) e at = all_more (after s x) xs i e at

pub done_more : (s : State) (es : List Event) (i : ℕ) (e : Event) → get_elem? es i ≡ some e → AllDone s (take i es) → Answers (after_all s (take i es)) e None → AllDone s (take (suc i) es)
done_more s [] i e at all ok = absurd (some-ne-none e (sym at))
done_more s (x ∷ xs) zero e at all ok = (subst (λ z. Answers s z None) (sym (some-injective x e at)) ok, tt)
done_more s (x ∷ xs) (suc i) e at all ok = (all.0, done_more (after s x) xs i e at all.1 ok)

-- each record of a list of events that were done, from a new core
pub all_spanned : (s : State) (es : List Event) → IsNew s → AllDone s es → AreSpanned s es
all_spanned s es (limit, rows, actors, is) all m f at = let T : Traced s [] s = subst (λ z. Traced z [] z) (sym is) (opening_traced limit rows actors) in
    (traced_all s [] es T all).spans m f at

pub at_shown : {A B : Type 0} (f : A → B) (l : List A) (i : ℕ) (x : A) → i < length l → x ≡ get_or l i x → get_elem? (map f l) i ≡ some (f x)
at_shown f [] i x less e = absurd (omega arith)
at_shown f (y ∷ ys) zero x less e = ap (λ z. some (f z)) (sym e)
at_shown f (y ∷ ys) (suc i) x less e = at_shown f ys i x (omega arith) e

pub take_all_past : {A B : Type 0} (f : A → B) (l : List A) (n : ℕ) → length l ≤ n → take n (map f l) ≡ map f l
take_all_past f [] zero past = refl
take_all_past f [] (suc n) past = refl
take_all_past f (x ∷ xs) zero past = absurd (omega arith)
take_all_past f (x ∷ xs) (suc n) past = ap (λ l. f x ∷ l) (take_all_past f xs n (omega arith))

-- the records of the events that were done before the place of a refused one
pub spanned_to : (s : State) (es : List Event) (k n : ℕ) → k ≡ n → AllDone s (take n es) → IsNew s → AreSpanned s (take k es)
spanned_to s es k n same all new = all_spanned s (take k es) new (subst (λ m. AllDone s (take m es)) (sym same) all)

-- and of all events
pub spanned_past : (s : State) (events : List rust_event.Event) (n : ℕ) → length events ≤ n → AllDone s (take n (map event_shown events)) → IsNew s → AreSpanned s (map event_shown events)
spanned_past s events n past all new = all_spanned s (map event_shown events) new (subst (AllDone s) (take_all_past event_shown events n past) all)

pub at_or_shown : {A B : Type 0} (f : A → B) (l : List A) (i : ℕ) (d : A) → i < length l → get_elem? (map f l) i ≡ some (f (get_or l i d))
at_or_shown f [] i d less = absurd (omega arith)
at_or_shown f (x ∷ xs) zero d less = refl
at_or_shown f (x ∷ xs) (suc i) d less = at_or_shown f xs i d (omega arith)

module _ (events : List rust_event.Event) (i : ℕ) (d : rust_event.Event) (less : i < length events) where
  abbrev es : List Event
  es = map event_shown events

  abbrev e : Event
  e = event_shown (get_or events i d)

  -- the next event was done
  pub goes_on : (s self new : State) → self ≡ after_all s (take i es) → AllDone s (take i es) → Answers self e None → new ≡ after self e → (new ≡ after_all s (take (i + 1) es)) × AllDone s (take (i + 1) es)
  goes_on s self new is all ok done = let at = at_or_shown event_shown events i d less in let next : suc i ≡ i + 1 = omega arith in (
    done ∙ ap (λ (t : State). after t e) is ∙ sym (all_more s es i e at) ∙ ap (λ n. after_all s (take n es)) next,
    subst (λ n. AllDone s (take n es)) next (done_more s es i e at all (subst (λ (t : State). Answers t e None) is ok)),
  )

  -- or refused
  pub stops_there : (self new : State) (place : ℕ) (why : rust_refused.Refused) → place ≡ i → RefusedAs self e why → new ≡ self → StopsFor new es place why
  stops_there self new place why here how same = (e, ap (get_elem? es) here ∙ at_or_shown event_shown events i d less, subst (λ (t : State). RefusedAs t e why) (sym same) how)

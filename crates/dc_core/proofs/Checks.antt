-- The tests of a check, by what the program finds of the actor and of its note.
use Rattle.std.proofs.Common.{◌≡◌, ◌≢◌, ℕ, Bool, not, true, false, true≢false, eqb, get_or, Option, Some, Result, Err, Ok, MatchResult, IsTrue, ◌↔◌, refl, sym, ap, ap₂, ◌∙◌, subst, inl, inr, arith, is_some}
use Rattle.std.proofs.lemmas.Bool.Decides.{nat_tests}
use Rattle.atomic_table.proofs.Lists.{at_index}
use Rattle.dc_events.specs.Rows.{count}
use Rattle.dc_events.specs.Views.{Note as Noted}
use Rattle.dc_events.specs.Walks.{no_note, note_of}
use Rattle.dc_core.specs.Machine.{State, Actor, actor_at, event_by}
use Rattle.dc_core.specs.Machine.Act.{Check}
use Rattle.dc_core.specs.Memory.{MayLackMemory, RefusedBy, TestedBy, AnsweredAs}
use Rattle.dc_core.specs.Refusals.{Refusal, Unless, Passes, Answers, IsUncheckable}
use Rattle.dc_core.specs.Refusals.Refusal.{NoNote, Changed}
use Rattle.dc_core.specs.Shown.{state_of, note_shown, actor_shown, refusal_shown}
use Rattle.dc_core.specs.declared.actor.Actor as rust_actor
use Rattle.dc_core.specs.declared.actor.Note as rust_note
use Rattle.dc_core.specs.declared.state.State as rust_state
use Rattle.dc_core.specs.declared.refused.Refused as rust_refused
use Rattle.dc_core.specs.declared.refused.Refused.TheVariants as refusals
use Rattle.dc_core.proofs.Acted.{not_past}
use Rattle.dc_core.proofs.Lacking.{tested_map}
use Rattle.dc_core.proofs.Shown.{get_map}
use Rattle.dc_core.proofs.Tests.{Walks, has, refused_for}

same_if : (m n : ℕ) → not (eqb m n) ≡ false → m ≡ n
same_if m n e = grind (arith, nat_tests)

other_if : (m n : ℕ) → not (eqb m n) ≡ true → m ≡ n → ⊥
other_if m n e same = grind (arith, nat_tests)

checkable : (P Q : Type 0) (b : Bool) → (Q → P) → (IsTrue b ↔ P) → b ≡ false → Q → ⊥
checkable P Q b to so off q = true≢false (sym (so.1 (to q)) ∙ off)

abbrev changed : State → Noted → Option Refusal → Type 0
changed s x = Unless (count s.words x.row ≢ x.count) (Changed x.row x.count (count s.words x.row)) Passes

changed_or : {A : Type 0} (M : Type 0) (s : State) (x : Noted) (found noted told : ℕ) (r : Result A rust_refused.Refused) → found ≡ count s.words x.row → noted ≡ x.count → told ≡ x.count
    → MatchResult r (λ _. not (eqb found noted) ≡ false) (λ y. (not (eqb found noted) ≡ true) × (y ≡ refusals.Changed x.row told found)) → TestedBy (changed s x) M r
changed_or M s x found noted told (Ok value) f n t e = inr ((λ ne. ne (sym f ∙ same_if found noted e ∙ n)), refl)
changed_or M s x found noted told (Err y) f n t e = subst (RefusedBy (changed s x) M) (sym (ap refusal_shown e.1)) (inl ((λ same. other_if found noted e.0 (f ∙ same ∙ sym n)), ap₂ (λ c k. Some (Changed x.row c k)) t f))

-- what an actor with a call and a pivot is answered
module _ (s : rust_state.State) (j i : ℕ) (one : rust_actor.Actor) (w : Walks s j one) (early lost : Bool) (pivot : is_some one.pivot ≡ not early) (after : early ≡ false) (so : IsTrue lost ↔ IsUncheckable (actor_shown one).walk i) where
  late : (actor_at (state_of s) j).walk.pivoted ≡ false → ⊥
  late = has _ _ early (ap (λ (a : Actor). a.walk.pivoted) w.is) pivot after

  -- of a note that it can't check
  pub check_lost : {A : Type 0} (r : Result A rust_refused.Refused) → r ≡ Err refusals.NoNote → IsTrue lost → AnsweredAs (state_of s) (event_by j (Check i)) r
  check_lost r refused lacks = refused_for (state_of s) (event_by j (Check i)) r refusals.NoNote NoNote refused refl
      (inr (w.there, inr (w.busy, inr (late, inl (subst (λ (a : Actor). IsUncheckable a.walk i) w.is (so.0 lacks), refl)))))

  -- and of one that it can
  pub check_last : {A : Type 0} (x : rust_note.Note) (found noted told : ℕ) (r : Result A rust_refused.Refused) → lost ≡ false → x ≡ get_or one.notes.items i x
      → found ≡ count s.words.items x.row → noted ≡ (note_shown x).count → told ≡ (note_shown x).count
      → MatchResult r (λ _. not (eqb found noted) ≡ false) (λ y. (not (eqb found noted) ≡ true) × (y ≡ refusals.Changed x.row told found)) → AnsweredAs (state_of s) (event_by j (Check i)) r
  check_last x found noted told r kept is f n t e = let S : State = state_of s in let M : Type 0 = MayLackMemory S (event_by j (Check i)) in
      let P : Actor → Type 0 = λ (a : Actor). IsUncheckable a.walk i in
      let ready = checkable (P (actor_shown one)) (P (actor_at S j)) lost (subst P (sym w.is)) so kept in
      let inside = not_past one i lost kept so in
      let here = sym (get_map note_shown one.notes.items i x no_note (at_index one.notes.items i x inside is)) ∙ ap (λ (a : Actor). note_of a.walk i) w.is in
      tested_map (changed S (note_of (actor_at S j).walk i)) (Answers S (event_by j (Check i))) M M (λ o t. inr (w.there, inr (w.busy, inr (late, inr (ready, t))))) (λ m. m) r
      (subst (λ x. TestedBy (changed S x) M r) here (changed_or M S (note_shown x) found noted told r f n t e))

-- Under the rule the checked notes of an actor that answers spell rows.
use Rattle.std.proofs.Common.{◌≡◌, ℕ, suc, ◌<◌, ◌≤◌, ◌≢◌, true, List, [], ◌∷◌, length, Option, None, refl, sym, ◌∙◌, subst, arith, inl, inr, ⊎_elim, true≢false}
use mathlib.Core.Option.{some}
use lib.ListN.{get_elem?}
use Rattle.dc_plain.specs.Facts.{Fact}
use Rattle.dc_row.specs.Spelling.{Spells}
use Rattle.dc_events.specs.Views.{Note}
use Rattle.dc_events.specs.Rows.{count, note_words, IsWhole}
use Rattle.dc_events.specs.Walks.{walk_marked, note_of, no_note}
use Rattle.atomic_table.proofs.Lists.{at_set}
use Rattle.dc_core.specs.Machine.{State, Actor, actor_at}
use Rattle.dc_core.specs.Machine.Act.{Pivot, Check}
use Rattle.dc_core.specs.Lives.{view_of, Lives}
use Rattle.dc_core.specs.Refusals.{Answers}
use Rattle.dc_core.specs.Told.{AreSpelled}
use Rattle.dc_core.proofs.Seats.{passed, at_or, held_not, held_so, here}
use Rattle.dc_core.proofs.Kept.{there}
use Rattle.dc_core.proofs.Settles.{same_number}

spelled_each : (l : List Note) → ((i : ℕ) (x : Note) → get_elem? l i ≡ some x → x.checked ≡ true → (fact : Option Fact) × Spells (note_words x) fact) → AreSpelled l
spelled_each [] so = tt
spelled_each (x ∷ xs) so = (so 0 x refl, spelled_each xs (λ i. so (suc i)))

pub pivot_spelled : (s : State) (j : ℕ) → Lives s → Answers s (record { actor = j; act = Pivot }) None → (actor_at s j).walk.busy ≡ true → AreSpelled (actor_at s j).walk.notes
pivot_spelled s j (hist, ds, L) ok busy = let p = passed ok in let q = passed p.1 in let a : Actor = actor_at s j in let f = L.rule.fits j (view_of s.words hist ds j a) (here s hist ds L j a (there s j p.0)) in
    let fresh = held_not a.walk.pivoted (λ t. q.0 (busy, t)) in
    spelled_each a.walk.notes (λ i x at checked. absurd (true≢false (sym checked ∙ f.walk.unchecked busy fresh i x at)))

module _ (s : State) (j i : ℕ) (ok : Answers s (record { actor = j; act = Check i }) None) where
  pub check_busy : (actor_at s j).walk.busy ≡ true
  check_busy = held_so (actor_at s j).walk.busy (passed (passed ok).1).0

  pub check_less : i < length (actor_at s j).walk.notes
  check_less = let t = passed (passed (passed (passed ok).1).1).1 in below i (length (actor_at s j).walk.notes) (λ h. t.0 (inl h))
    where
      below : (m n : ℕ) → (n ≤ m → ⊥) → m < n
      below m n h = omega arith

  pub check_spelled : Lives s → AreSpelled (walk_marked (actor_at s j).walk i).notes
  check_spelled (hist, ds, L) = let p = passed ok in let q = passed p.1 in let r = passed q.1 in let t = passed r.1 in let u = passed t.1 in let a : Actor = actor_at s j in
      let turned = held_so a.walk.pivoted r.0 in let whole : IsWhole (note_of a.walk i) = same_number _ _ (λ h. t.0 (inr (inl h))) in
      let same : (note_of a.walk i).count ≡ count s.words (note_of a.walk i).row = sym (same_number _ _ u.0) in
      let f = (L.rule.fits j (view_of s.words hist ds j a) (here s hist ds L j a (there s j p.0))).walk in let one : Note = note_of a.walk i in
      spelled_each (walk_marked a.walk i).notes (λ k x at checked. ⊎_elim
      (λ (h : (k ≡ i) × (record one { checked = true } ≡ x)). let tells = f.told check_busy turned i one (at_or a.walk.notes i no_note check_less) (whole, inr same) in
      subst (λ (y : Note). (fact : Option Fact) × Spells (note_words y) fact) h.1 (tells.fact, tells.spells))
      (λ (h : (k ≢ i) × (get_elem? a.walk.notes k ≡ some x)). let tells = f.told check_busy turned k x h.1 ((f.noted k x h.1).whole checked, inl checked) in (tells.fact, tells.spells))
      (at_set a.walk.notes i k (record one { checked = true }) x at))

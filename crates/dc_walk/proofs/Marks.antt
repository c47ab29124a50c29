-- Which notes are used, and what the checked ones say.
use Rattle.std.proofs.Common.{◌≡◌, ℕ, zero, suc, ◌+◌, ◌-◌, ◌<◌, ◌≤◌, inl, inr, List, [], ◌∷◌, ◌++◌, true, false, Some, length, get_or, set, take, refl, ap, sym, ◌∙◌, subst, arith}
use Rattle.dc_plain.specs.Facts.{Fact}
use Rattle.dc_row.specs.Decoding.{fact_in, SpelledIsRead}
use Rattle.dc_events.specs.Views.{Note}
use Rattle.dc_events.specs.Rows.{note_words}
use Rattle.dc_events.specs.Walks.{no_note}
use Rattle.dc_events.specs.Noted.{facts_in, facts_if, with_fact}
use Rattle.dc_walk.specs.Uses.{Use, IsUse, Marked, facts_of}

take_none : (c : ℕ) → take {A = Fact} c [] ≡ []
take_none zero = refl
take_none (suc c) = refl

module _ (spelled : SpelledIsRead) where
  skipped : (x : Note) (xs : List Note) → x.checked ≡ false → facts_in (x ∷ xs) ≡ facts_in xs
  skipped x xs e = ap (λ b. facts_if b (note_words x) (facts_in xs)) e

  taken : (x : Note) (xs : List Note) (fact : Fact) → x.checked ≡ true → fact_in (note_words x) ≡ Some (Some fact) → facts_in (x ∷ xs) ≡ fact ∷ facts_in xs
  taken x xs fact e is = ap (λ b. facts_if b (note_words x) (facts_in xs)) e ∙ ap (λ o. with_fact o (facts_in xs)) is

  -- the checked notes say the facts of the first uses
  pub facts_are : (k c : ℕ) (notes : List Note) (us : List Use) → Marked k c notes us → facts_in notes ≡ take c (facts_of us)
  facts_are k c [] us m = sym (ap (λ us. take c (facts_of us)) m ∙ take_none c)
  facts_are k c (x ∷ xs) [] (e, m) = skipped x xs e ∙ facts_are (suc k) c xs [] m
  facts_are k c (x ∷ xs) (u ∷ us) (inl (e, m)) = skipped x xs e ∙ facts_are (suc k) c xs (u ∷ us) m
  facts_are k zero (x ∷ xs) (u ∷ us) (inr (is, e, m)) = skipped x xs e ∙ facts_are (suc k) zero xs us m
  facts_are k (suc c) (x ∷ xs) (u ∷ us) (inr (is, e, m)) =
      taken x xs u.fact e (spelled (note_words x) (Some u.fact) is.spells) ∙ ap (λ fs. u.fact ∷ fs) (facts_are (suc k) c xs us m)

-- the note of a use stands there, unchecked
pub record IsNext (k : ℕ) (notes : List Note) (u : Use) : Type 0 where
  pub from : k ≤ u.place
  pub inside : u.place - k < length notes
  pub is : IsUse u u.place (get_or notes (u.place - k) no_note)
  pub unticked : (get_or notes (u.place - k) no_note).checked ≡ false

later_index : (k n : ℕ) → suc k ≤ n → n - k ≡ suc (n - suc k)
later_index k n l = omega arith

shifted : (k : ℕ) (x : Note) (xs : List Note) (u : Use) → IsNext (suc k) xs u → IsNext k (x ∷ xs) u
shifted k x xs u n = let from = n.from in let inside = n.inside in record {
  from = omega arith;
  inside = omega arith;
  is = subst (λ (i : ℕ). IsUse u u.place (get_or (x ∷ xs) i no_note)) (sym (later_index k u.place from)) n.is;
  unticked = subst (λ (i : ℕ). (get_or (x ∷ xs) i no_note).checked ≡ false) (sym (later_index k u.place from)) n.unticked;
}

no_offset : (k n : ℕ) → n ≡ k → n - k ≡ 0
no_offset k n e = omega arith

here : (k : ℕ) (x : Note) (xs : List Note) (u : Use) → IsUse u k x → x.checked ≡ false → IsNext k (x ∷ xs) u
here k x xs u is e = let at = is.at in let zero_at = no_offset k u.place at in record {
  from = omega arith;
  inside = omega arith;
  is = subst (λ (i : ℕ). IsUse u u.place (get_or (x ∷ xs) i no_note)) (sym zero_at) (record { at = refl; row = is.row; count = is.count; spells = is.spells });
  unticked = subst (λ (i : ℕ). (get_or (x ∷ xs) i no_note).checked ≡ false) (sym zero_at) e;
}

pub next_there : (k c : ℕ) (notes : List Note) (us : List Use) (d : Use) → Marked k c notes us → c < length us → IsNext k notes (get_or us c d)
next_there k c [] us d m l = let none : length us ≡ 0 = ap length m in absurd (omega arith)
next_there k c (x ∷ xs) [] d (e, m) l = absurd (omega arith)
next_there k c (x ∷ xs) (u ∷ us) d (inl (e, m)) l = shifted k x xs (get_or (u ∷ us) c d) (next_there (suc k) c xs (u ∷ us) d m l)
next_there k zero (x ∷ xs) (u ∷ us) d (inr (is, e, m)) l = here k x xs u is e
next_there k (suc c) (x ∷ xs) (u ∷ us) d (inr (is, e, m)) l = shifted k x xs (get_or us c d) (next_there (suc k) c xs us d m (omega arith))

-- and so does that of each, while none is checked
pub any_there : (k : ℕ) (notes : List Note) (us : List Use) (d : Use) (j : ℕ) → Marked k 0 notes us → j < length us → IsNext k notes (get_or us j d)
any_there k [] us d j m l = let none : length us ≡ 0 = ap length m in absurd (omega arith)
any_there k (x ∷ xs) [] d j (e, m) l = absurd (omega arith)
any_there k (x ∷ xs) (u ∷ us) d j (inl (e, m)) l = shifted k x xs (get_or (u ∷ us) j d) (any_there (suc k) xs (u ∷ us) d j m l)
any_there k (x ∷ xs) (u ∷ us) d zero (inr (is, e, m)) l = here k x xs u is e
any_there k (x ∷ xs) (u ∷ us) d (suc j) (inr (is, e, m)) l = shifted k x xs (get_or us j d) (any_there (suc k) xs us d j m (omega arith))

abbrev pub ticked : Note → Note
ticked x = record x { checked = true }

abbrev ticks : List Note → ℕ → List Note
ticks notes i = set notes i (ticked (get_or notes i no_note))

pub marks_next : (k c : ℕ) (notes : List Note) (us : List Use) (d : Use) → Marked k c notes us → c < length us → Marked k (suc c) (ticks notes ((get_or us c d).place - k)) us
marks_next k c [] us d m l = let none : length us ≡ 0 = ap length m in absurd (omega arith)
marks_next k c (x ∷ xs) [] d (e, m) l = absurd (omega arith)
marks_next k c (x ∷ xs) (u ∷ us) d (inl (e, m)) l =
    let n = next_there (suc k) c xs (u ∷ us) d m l in
    subst (λ (i : ℕ). Marked k (suc c) (ticks (x ∷ xs) i) (u ∷ us)) (sym (later_index k (get_or (u ∷ us) c d).place n.from)) (inl (e, marks_next (suc k) c xs (u ∷ us) d m l))
marks_next k zero (x ∷ xs) (u ∷ us) d (inr (is, e, m)) l =
    subst (λ (i : ℕ). Marked k 1 (ticks (x ∷ xs) i) (u ∷ us)) (sym (no_offset k u.place is.at)) (inr (record { at = is.at; row = is.row; count = is.count; spells = is.spells }, refl, m))
marks_next k (suc c) (x ∷ xs) (u ∷ us) d (inr (is, e, m)) l =
    let n = next_there (suc k) c xs us d m (omega arith) in
    subst (λ (i : ℕ). Marked k (suc (suc c)) (ticks (x ∷ xs) i) (u ∷ us)) (sym (later_index k (get_or us c d).place n.from)) (inr (is, e, marks_next (suc k) c xs us d m (omega arith)))

-- one note more
pub more_unused : (k : ℕ) (notes : List Note) (us : List Use) (x : Note) → Marked k 0 notes us → x.checked ≡ false → Marked k 0 (notes ++ x ∷ []) us
more_unused k [] us x m e = subst (λ us. Marked k 0 (x ∷ []) us) (sym m) (e, refl)
more_unused k (y ∷ ys) [] x (a, m) e = (a, more_unused (suc k) ys [] x m e)
more_unused k (y ∷ ys) (u ∷ us) x (inl (a, m)) e = inl (a, more_unused (suc k) ys (u ∷ us) x m e)
more_unused k (y ∷ ys) (u ∷ us) x (inr (is, a, m)) e = inr (is, a, more_unused (suc k) ys us x m e)

use_at : (u : Use) (k n : ℕ) (x : Note) → n ≡ k → IsUse u k x → IsUse u n x
use_at u k n x e is = let at = is.at in record { at = at ∙ sym e; row = is.row; count = is.count; spells = is.spells }

pub more_used : (k : ℕ) (notes : List Note) (us : List Use) (x : Note) (u : Use) → Marked k 0 notes us → IsUse u (k + length notes) x → x.checked ≡ false → Marked k 0 (notes ++ x ∷ []) (us ++ u ∷ [])
more_used k [] us x u m is e = subst (λ us. Marked k 0 (x ∷ []) (us ++ u ∷ [])) (sym m) (inr (use_at u (k + 0) k x (omega arith) is, e, refl))
more_used k (y ∷ ys) [] x u (a, m) is e = inl (a, more_used (suc k) ys [] x u m (use_at u (k + suc (length ys)) (suc k + length ys) x (omega arith) is) e)
more_used k (y ∷ ys) (w ∷ us) x u (inl (a, m)) is e = inl (a, more_used (suc k) ys (w ∷ us) x u m (use_at u (k + suc (length ys)) (suc k + length ys) x (omega arith) is) e)
more_used k (y ∷ ys) (w ∷ us) x u (inr (was, a, m)) is e = inr (was, a, more_used (suc k) ys us x u m (use_at u (k + suc (length ys)) (suc k + length ys) x (omega arith) is) e)

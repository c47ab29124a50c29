-- One actor's step keeps the rule.
use Rattle.std.proofs.Common.{◌≡◌, ℕ, zero, suc, ◌+◌, ◌<◌, ◌≤◌, ◌≢◌, ◌⊎◌, true, false, List, [], ◌∷◌, length, get_or, set, sym, refl, ap, ◌∙◌, subst, true≢false, ⊎_elim, inl, inr, arith}
use mathlib.Core.Logic.{dite}
use mathlib.Core.Option.{some, some-injective, some-ne-none}
use native.Mathlib.Decide.{ℕ_discrete}
use lib.ListN.{get_elem?}
use Rattle.dc_plain.specs.Requests.{Request}
use Rattle.dc_events.specs.Views.{View}
use Rattle.dc_events.specs.Standing.{tree_of}
use Rattle.dc_events.specs.Rows.{most}
use Rattle.dc_events.specs.Rule.{ViewFits, RowFits, total, view_hits, once_below, HoldFits, Locked, AllEven, Rule}
use Rattle.dc_events.proofs.Totals.{total_set}
use Rattle.dc_events.proofs.Later.{Later, view_later}
use Rattle.atomic_table.proofs.Lists.{at_set, set_here, set_else}

pub seats_stay : (K : ℕ → View → Type 0) (vs : List View) (me : ℕ) (w : View) → K me w → ((j : ℕ) (u : View) → j ≢ me → get_elem? vs j ≡ some u → K j u)
    → (j : ℕ) (u : View) → get_elem? (set vs me w) j ≡ some u → K j u
seats_stay K vs me w mine others j u e = ⊎_elim (λ (t : (j ≡ me) × (w ≡ u)). subst (λ (x : ℕ × View). K x.0 x.1) (λ i. (sym t.0 i, t.1 i)) mine)
    (λ (t : (j ≢ me) × (get_elem? vs j ≡ some u)). others j u t.0 t.1) (at_set vs me j w u e)

pub within_list : {A : Type 0} (l : List A) (i : ℕ) (a : A) → get_elem? l i ≡ some a → i < length l
within_list [] i a e = absurd (some-ne-none a (sym e))
within_list (x ∷ xs) zero a e = omega arith
within_list (x ∷ xs) (suc i) a e = let r = within_list xs i a e in omega arith

pub set_mine : (vs : List View) (i : ℕ) (v w : View) → get_elem? vs i ≡ some v → get_elem? (set vs i w) i ≡ some w
set_mine vs i v w e = set_here vs i w (within_list vs i v e)

same_total : (f : View → ℕ) (vs : List View) (i : ℕ) (v w : View) → get_elem? vs i ≡ some v → f w ≡ f v → total f (set vs i w) ≡ total f vs
same_total f vs i v w at e = let t = total_set f vs i v w at in omega arith

no_one : (words : List ℕ) (vs : List View) (id : ℕ) (v : View) → get_elem? vs id ≡ some v → Locked words vs id → v.hold.holds ≡ true
no_one words vs id v at l = ap (λ (u : View). u.hold.holds) (some-injective v l.1.0 (sym at ∙ l.1.1)) ∙ l.1.2

module _ {limit rows : ℕ} {words : List ℕ} {views : List View} {hist : List Request} (R : Rule limit rows words views hist) (id : ℕ) (v w : View) (at : get_elem? views id ≡ some v) where
  -- a step that changes no word, and neither gets nor loses the lock
  pub quiet : w.hold ≡ v.hold → ((p : ℕ) → view_hits p w ≡ view_hits p v) → ViewFits limit rows words hist w → Rule limit rows words (set views id w) hist
  quiet hold hits fits = record {
    holder = R.holder;
    clock = R.clock;
    early = R.early;
    wide = R.wide;
    row = R.row;
    lock = ⊎_elim inl (λ (l : Locked words views R.holder). inr (
      l.0,
      dite (ℕ_discrete R.holder id)
          (λ same. (w, subst (λ z. get_elem? (set views id w) z ≡ some w) (sym same) (set_mine views id v w at), ap (λ h. h.holds) hold ∙ no_one words views id v at (subst (Locked words views) same l)))
          (λ other. (l.1.0, set_else views id R.holder w other ∙ l.1.1, l.1.2)),
    )) R.lock;
    held = seats_stay (λ j u. u.hold.holds ≡ true → HoldFits words hist R.holder j u.hold) views id w
        (λ has. subst (HoldFits words hist R.holder id) (sym hold) (R.held id v at (ap (λ h. h.holds) (sym hold) ∙ has)))
        (λ j u _. R.held j u);
    fits = seats_stay (λ j u. ViewFits limit rows words hist u) views id w fits (λ j u _. R.fits j u);
    once = λ p. same_total (view_hits p) views id v w at (hits p) ∙ R.once p;
  }

  -- what the lock is after a step of the one that has it, gets it or gives it
  abbrev pub LockAfter : List ℕ → List Request → Type 0
  LockAfter words' hist' = ((get_or words' 1 0 ≡ 0) × AllEven rows words' × (w.hold.holds ≡ false)) ⊎ ((get_or words' 1 0 ≡ 1) × (w.hold.holds ≡ true) × (w.hold.history ≡ hist') × (w.hold.words ≡ words'))

  lock_of : (words' : List ℕ) (hist' : List Request) → LockAfter words' hist' → ((get_or words' 1 0 ≡ 0) × AllEven rows words') ⊎ Locked words' (set views id w) id
  lock_of words' hist' (inl l) = inl (l.0, l.1)
  lock_of words' hist' (inr l) = inr (l.0, (w, set_mine views id v w at, l.1))

  mine_after : (words' : List ℕ) (hist' : List Request) → LockAfter words' hist' → w.hold.holds ≡ true → HoldFits words' hist' id id w.hold
  mine_after words' hist' (inl l) has = absurd (true≢false (sym has ∙ l.2))
  mine_after words' hist' (inr l) has = record { here = refl; locked = l.0; knows_history = l.2; knows_words = l.3 }

  -- a step while no other view has the lock
  pub alone : (words' : List ℕ) (hist' : List Request) → ((j : ℕ) (u : View) → j ≢ id → get_elem? views j ≡ some u → u.hold.holds ≡ true → ⊥) → Later rows words hist words' hist'
      → get_or words' 0 0 ≡ length hist' → length hist' ≤ most → length words' ≡ length words → ((i : ℕ) → i < rows → RowFits (tree_of limit hist') words' i) → LockAfter words' hist'
      → ((p : ℕ) → view_hits p w + once_below p (length hist) ≡ view_hits p v + once_below p (length hist')) → ViewFits limit rows words' hist' w
      → Rule limit rows words' (set views id w) hist'
  alone words' hist' others L clock early wide row lock hits fits = record {
    holder = id;
    clock = clock;
    early = early;
    wide = wide ∙ R.wide;
    row = row;
    lock = lock_of words' hist' lock;
    held = seats_stay (λ j u. u.hold.holds ≡ true → HoldFits words' hist' id j u.hold) views id w (mine_after words' hist' lock) (λ j u other there has. absurd (others j u other there has));
    fits = seats_stay (λ j u. ViewFits limit rows words' hist' u) views id w fits (λ j u _ there. view_later L limit u (R.fits j u there));
    once = λ p. let t = total_set (view_hits p) views id v w at in let o = R.once p in let h = hits p in omega arith;
  }

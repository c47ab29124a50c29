-- A view is cut in two, and two are put together.
use Rattle.std.proofs.Common.{◌≡◌, ℕ, zero, suc, ◌+◌, ◌≤◌, ◌≢◌, max, true, false, List, [], ◌∷◌, ◌++◌, length, set, sym, refl, ap, ◌∙◌, subst, ⊎_elim, inl, inr, arith, true≢false}
use Rattle.std.proofs.Math.Nat.{le-max_left, le-max_right, max-le}
use mathlib.Core.Logic.{dite}
use mathlib.Core.Option.{some, some-injective, some-ne-none}
use native.Mathlib.Decide.{ℕ_discrete}
use lib.ListN.{get_elem?}
use Rattle.dc_plain.specs.Requests.{Request}
use Rattle.dc_events.specs.Views.{Record, Walk, Book, View}
use Rattle.dc_events.specs.Standing.{all_hits}
use Rattle.dc_events.specs.Rule.{StrandFits, WalkFits, BookFits, FaultsFit, ViewFits, view_hits, HoldFits, Locked, Rule}
use Rattle.dc_events.specs.Effects.{nobody}
use Rattle.dc_events.specs.Walks.{no_walk}
use Rattle.dc_events.specs.Passes.{newcomer, books_joined, joined_with}
use Rattle.dc_events.proofs.Totals.{total_set, total_snoc}
use Rattle.dc_events.proofs.Records.{strand_more}
use Rattle.dc_events.proofs.Holder.{walk_done, no_faults}
use Rattle.dc_events.proofs.Steps.{seats_stay, set_mine}
use Rattle.atomic_table.proofs.Lists.{at_snoc, at_longer, set_else}

all_hits-append : (p : ℕ) (a b : List (List Record)) → all_hits p (a ++ b) ≡ all_hits p a + all_hits p b
all_hits-append p [] b = omega arith
all_hits-append p (x ∷ xs) b = let h = all_hits-append p xs b in omega arith

in_append : {A : Type 0} (K : A → Type 0) (a b : List A) → ((i : ℕ) (x : A) → get_elem? a i ≡ some x → K x) → ((i : ℕ) (x : A) → get_elem? b i ≡ some x → K x) → (i : ℕ) (x : A) → get_elem? (a ++ b) i ≡ some x → K x
in_append K [] b left right i x e = right i x e
in_append K (y ∷ ys) b left right zero x e = left 0 x e
in_append K (y ∷ ys) b left right (suc i) x e = in_append K ys b (λ j. left (suc j)) right i x e

in_cons : {A : Type 0} (K : A → Type 0) (y : A) (ys : List A) → K y → ((i : ℕ) (x : A) → get_elem? ys i ≡ some x → K x) → (i : ℕ) (x : A) → get_elem? (y ∷ ys) i ≡ some x → K x
in_cons K y ys first rest zero x e = subst K (some-injective y x e) first
in_cons K y ys first rest (suc i) x e = rest i x e

no_records : (limit : ℕ) (hist : List Request) (seen : ℕ) → StrandFits limit hist seen []
no_records limit hist seen = record { stand = λ i r e. absurd (some-ne-none r (sym e)); rising = tt; within = omega arith }

-- a view of no walk and no record
fresh : (limit rows : ℕ) (words : List ℕ) (hist : List Request) (v : View) → v.walk ≡ no_walk → v.book.own ≡ [] → v.book.joined ≡ [] → v.faults ≡ [] → v.book.seen ≤ length hist → ViewFits limit rows words hist v
fresh limit rows words hist v walk own joined none seen = record {
  walk = subst (WalkFits limit rows words hist) (sym walk) (walk_done limit rows words hist);
  book = record {
    own = subst (StrandFits limit hist v.book.seen) (sym own) (no_records limit hist v.book.seen);
    joined = λ i s e. absurd (some-ne-none s (sym (subst (λ (l : List (List Record)). get_elem? l i ≡ some s) joined e)));
    seen = seen;
  };
  follows = λ busy. absurd (true≢false (sym busy ∙ ap (λ (w : Walk). w.busy) walk));
  faults = subst (FaultsFit rows words) (sym none) (no_faults rows words);
}

books_fit : (limit : ℕ) (hist : List Request) (a b : Book) → BookFits limit hist a → BookFits limit hist b → BookFits limit hist (books_joined a b)
books_fit limit hist a b f g = let l = le-max_left a.seen b.seen in let r = le-max_right a.seen b.seen in let seen : ℕ = max a.seen b.seen in record {
  own = strand_more limit hist a.seen seen a.own l f.own;
  joined = in_append (StrandFits limit hist seen) a.joined (b.own ∷ b.joined) (λ i s e. strand_more limit hist a.seen seen s l (f.joined i s e))
      (in_cons (StrandFits limit hist seen) b.own b.joined (strand_more limit hist b.seen seen b.own r g.own) (λ i s e. strand_more limit hist b.seen seen s r (g.joined i s e)));
  seen = max-le f.seen g.seen;
}

module _ {limit rows : ℕ} {words : List ℕ} {views : List View} {hist : List Request} (R : Rule limit rows words views hist) (id : ℕ) (v : View) (at : get_elem? views id ≡ some v) where
  all_cut : (K : ℕ → View → Type 0) → ((j : ℕ) → K j (newcomer v)) → ((j : ℕ) (u : View) → get_elem? views j ≡ some u → K j u) → (j : ℕ) (u : View) → get_elem? (views ++ newcomer v ∷ []) j ≡ some u → K j u
  all_cut K new old j u e = ⊎_elim (λ (h : get_elem? views j ≡ some u). old j u h) (λ (h : newcomer v ≡ u). subst (K j) h (new j)) (at_snoc views (newcomer v) u j e)

  pub splits : Rule limit rows words (views ++ newcomer v ∷ []) hist
  splits = record {
    holder = R.holder;
    clock = R.clock;
    early = R.early;
    wide = R.wide;
    row = R.row;
    lock = ⊎_elim inl (λ (l : Locked words views R.holder). inr (l.0, (l.1.0, at_longer views (newcomer v ∷ []) R.holder l.1.0 l.1.1, l.1.2))) R.lock;
    held = all_cut (λ j u. u.hold.holds ≡ true → HoldFits words hist R.holder j u.hold) (λ j has. absurd (true≢false (sym has))) (λ j u. R.held j u);
    fits = all_cut (λ j u. ViewFits limit rows words hist u) (λ j. fresh limit rows words hist (newcomer v) refl refl refl refl (R.fits id v at).book.seen) (λ j u. R.fits j u);
    once = λ p. let a = total_snoc (view_hits p) views (newcomer v) in let c = R.once p in omega arith;
  }

  module _ (other : ℕ) (w : View) (apart : other ≢ id) (there : get_elem? views other ≡ some w) (free : w.hold.holds ≡ false) where
    abbrev pub both : View
    both = joined_with v w

    all_joined : (K : ℕ → View → Type 0) → K id both → ((j : ℕ) → K j nobody) → ((j : ℕ) (u : View) → get_elem? views j ≡ some u → K j u)
        → (j : ℕ) (u : View) → get_elem? (set (set views id both) other nobody) j ≡ some u → K j u
    all_joined K mine gone old j u e = seats_stay K (set views id both) other nobody (gone other) (λ i x _ h. seats_stay K views id both mine (λ k y _. old k y) i x h) j u e

    -- the holder is not the one that goes
    still_held : (l : Locked words views R.holder) → (z : View) × (get_elem? (set (set views id both) other nobody) R.holder ≡ some z) × (z.hold.holds ≡ true)
    still_held l = let away : R.holder ≢ other = λ e. let h = ap (λ (u : View). u.hold.holds) (some-injective l.1.0 w (sym l.1.1 ∙ (ap (get_elem? views) e ∙ there))) in true≢false (sym l.1.2 ∙ (h ∙ free)) in
        dite (ℕ_discrete R.holder id)
        (λ same. let e = ap (λ (u : View). u.hold.holds) (some-injective l.1.0 v (sym l.1.1 ∙ (ap (get_elem? views) same ∙ at))) in
        (both, set_else (set views id both) other R.holder nobody away ∙ subst (λ z. get_elem? (set views id both) z ≡ some both) (sym same) (set_mine views id v both at), sym e ∙ l.1.2))
        (λ ne. (l.1.0, set_else (set views id both) other R.holder nobody away ∙ (set_else views id R.holder both ne ∙ l.1.1), l.1.2))

    pub joins : Rule limit rows words (set (set views id both) other nobody) hist
    joins = let f = R.fits id v at in let g = R.fits other w there in record {
      holder = R.holder;
      clock = R.clock;
      early = R.early;
      wide = R.wide;
      row = R.row;
      lock = ⊎_elim inl (λ (l : Locked words views R.holder). inr (l.0, still_held l)) R.lock;
      held = all_joined (λ j u. u.hold.holds ≡ true → HoldFits words hist R.holder j u.hold) (R.held id v at) (λ j has. absurd (true≢false (sym has))) (λ j u. R.held j u);
      fits = all_joined (λ j u. ViewFits limit rows words hist u)
          record {
            walk = f.walk;
            book = books_fit limit hist v.book w.book f.book g.book;
            follows = λ x y. let p = f.follows x y in let l = le-max_left v.book.seen w.book.seen in ((let q = p.0 in omega arith), p.1);
            faults = f.faults;
          }
          (λ j. fresh limit rows words hist nobody refl refl refl refl (omega arith)) (λ j u. R.fits j u);
      once = λ p. let a = total_set (view_hits p) views id v both at in let b = total_set (view_hits p) (set views id both) other w nobody (set_else views id other both apart ∙ there) in
          let c = R.once p in let d = all_hits-append p v.book.joined (w.book.own ∷ w.book.joined) in omega arith;
    }

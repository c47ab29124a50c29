-- The views made of what the core stores, us one actor's event changes them.
use Rattle.std.proofs.Common.{◌≡◌, ℕ, zero, suc, ◌+◌, ◌<◌, ◌≢◌, ◌==◌, ◌⊎◌, Bool, true, false, List, [], ◌∷◌, ◌++◌, length, get_or, set, Some, None, refl, sym, ap, ap₂, ◌∙◌, subst, arith, inl, inr, ⊎_elim, cond, length-set}
use mathlib.Core.Option.{some, some-ne-none}
use lib.ListN.{get_elem?}
use Rattle.dc_plain.specs.Requests.{Request}
use Rattle.dc_core.specs.Machine.{State, Actor}
use Rattle.dc_core.specs.Lives.{Done, strand, hold_of, view_of, views_from, LivesWith}
use Rattle.dc_core.specs.Refusals.{Refusal}
use Rattle.atomic_table.proofs.Lists.{at_snoc}

-- a test that did not refuse
pub passed : {A B : Type 0} {reason : Refusal} → (A × (None ≡ Some reason)) ⊎ ((A → ⊥) × B) → (A → ⊥) × B
passed (inl is) = absurd (none_some is.1)
  where
    none_some : {r : Refusal} → None ≡ Some r → ⊥
    none_some e = cc
passed (inr rest) = rest

pub met : {A B : Type 0} {reason : Refusal} → ((A → ⊥) × (None ≡ Some reason)) ⊎ (A × B) → A × B
met (inl is) = absurd (none_some is.1)
  where
    none_some : {r : Refusal} → None ≡ Some r → ⊥
    none_some e = cc
met (inr rest) = rest

pub within_list : {A : Type 0} (l : List A) (i : ℕ) (a : A) → get_elem? l i ≡ some a → i < length l
within_list [] i a e = absurd (some-ne-none a (sym e))
within_list (x ∷ xs) zero a e = omega arith
within_list (x ∷ xs) (suc i) a e = let r = within_list xs i a e in omega arith

pub at_or : {A : Type 0} (us : List A) (i : ℕ) (d : A) → i < length us → get_elem? us i ≡ some (get_or us i d)
at_or [] i d less = absurd (omega arith)
at_or (x ∷ xs) zero d less = refl
at_or (x ∷ xs) (suc i) d less = at_or xs i d (omega arith)

pub held_not : (b : Bool) → (b ≡ true → ⊥) → b ≡ false
held_not true other = absurd (other refl)
held_not false other = refl

pub held_so : (b : Bool) → (b ≡ false → ⊥) → b ≡ true
held_so true other = refl
held_so false other = absurd (other refl)

pub at_views : (words : List ℕ) (hist : List Request) (ds : List Done) (k : ℕ) (us : List Actor) (m : ℕ) (a : Actor) → get_elem? us m ≡ some a → get_elem? (views_from words hist ds k us) m ≡ some (view_of words hist ds (k + m) a)
at_views words hist ds k [] m a e = absurd (some-ne-none a (sym e))
at_views words hist ds k (x ∷ xs) zero a e = let z : k ≡ k + 0 = omega arith in ap₂ (λ j u. some (view_of words hist ds j u)) z (mathlib.Core.Option.some-injective x a e)
at_views words hist ds k (x ∷ xs) (suc m) a e = let z : suc k + m ≡ k + suc m = omega arith in at_views words hist ds (suc k) xs m a e ∙ ap (λ j. some (view_of words hist ds j a)) z

module _ (words words' : List ℕ) (hist hist' : List Request) (ds ds' : List Done) where
  all_same : (k : ℕ) (us : List Actor) → ((j : ℕ) (u : Actor) → get_elem? us j ≡ some u → view_of words hist ds (k + j) u ≡ view_of words' hist' ds' (k + j) u) → views_from words hist ds k us ≡ views_from words' hist' ds' k us
  all_same k [] same = refl
  all_same k (x ∷ xs) same = let z : k + 0 ≡ k = omega arith in
      ap₂ (λ v vs. v ∷ vs) (subst (λ j. view_of words hist ds j x ≡ view_of words' hist' ds' j x) z (same 0 x refl))
      (all_same (suc k) xs (λ j u e. let y : k + suc j ≡ suc k + j = omega arith in subst (λ i. view_of words hist ds i u ≡ view_of words' hist' ds' i u) y (same (suc j) u e)))

  pub views_set : (k m : ℕ) (us : List Actor) (a' : Actor) → ((j : ℕ) (u : Actor) → j ≢ m → get_elem? us j ≡ some u → view_of words hist ds (k + j) u ≡ view_of words' hist' ds' (k + j) u)
      → set (views_from words hist ds k us) m (view_of words' hist' ds' (k + m) a') ≡ views_from words' hist' ds' k (set us m a')
  views_set k m [] a' same = refl
  views_set k zero (x ∷ xs) a' same = let z : k + 0 ≡ k = omega arith in
      ap₂ (λ j vs. view_of words' hist' ds' j a' ∷ vs) z
      (all_same (suc k) xs (λ j u e. let y : k + suc j ≡ suc k + j = omega arith in subst (λ i. view_of words hist ds i u ≡ view_of words' hist' ds' i u) y (same (suc j) u (λ h. omega arith) e)))
  views_set k (suc m) (x ∷ xs) a' same = let z : k + 0 ≡ k = omega arith in let w : k + suc m ≡ suc k + m = omega arith in
      ap₂ (λ v vs. v ∷ vs) (subst (λ j. view_of words hist ds j x ≡ view_of words' hist' ds' j x) z (same 0 x (λ h. omega arith) refl))
      (ap (λ j. set (views_from words hist ds (suc k) xs) m (view_of words' hist' ds' j a')) w
      ∙ views_set (suc k) m xs a' (λ j u ne e. let y : k + suc j ≡ suc k + j = omega arith in subst (λ i. view_of words hist ds i u ≡ view_of words' hist' ds' i u) y (same (suc j) u (λ h. ne (omega arith)) e)))

-- an actor without the lock has the same view, whatever the words and the history are
pub unheld : (words words' : List ℕ) (hist hist' : List Request) (ds ds' : List Done) (j : ℕ) (u : Actor) → u.holds ≡ false → strand j ds ≡ strand j ds' → view_of words hist ds j u ≡ view_of words' hist' ds' j u
unheld words words' hist hist' ds ds' j u e s = let h = ap (λ b. hold_of b words hist) e ∙ sym (ap (λ b. hold_of b words' hist') e) in λ i. record { walk = u.walk; book = record { seen = u.seen; own = s i; joined = [] }; hold = h i; loads = u.loads; first_load = 0; faults = [] }

pub strand_snoc : (j : ℕ) (ds : List Done) (d : Done) (b : Bool) → (d.actor == j) ≡ b → strand j (ds ++ d ∷ []) ≡ strand j ds ++ cond b (d.record_made ∷ []) []
strand_snoc j [] d b e = ap (λ z. cond z (d.record_made ∷ []) []) e
strand_snoc j (x ∷ xs) d b e = one_more (x.actor == j) (strand_snoc j xs d b e)
  where
    one_more : (c : Bool) → strand j (xs ++ d ∷ []) ≡ strand j xs ++ cond b (d.record_made ∷ []) []
        → cond c (x.record_made ∷ strand j (xs ++ d ∷ [])) (strand j (xs ++ d ∷ [])) ≡ cond c (x.record_made ∷ strand j xs) (strand j xs) ++ cond b (d.record_made ∷ []) []
    one_more true r = ap (λ l. x.record_made ∷ l) r
    one_more false r = r

-- of all actors
pub at_all : (words : List ℕ) (hist : List Request) (ds : List Done) (us : List Actor) (m : ℕ) (a : Actor) → get_elem? us m ≡ some a → get_elem? (views_from words hist ds 0 us) m ≡ some (view_of words hist ds m a)
at_all words hist ds us m a e = let z : 0 + m ≡ m = omega arith in at_views words hist ds 0 us m a e ∙ ap (λ j. some (view_of words hist ds j a)) z

pub set_all : (words words' : List ℕ) (hist hist' : List Request) (ds ds' : List Done) (m : ℕ) (us : List Actor) (a' : Actor) → ((j : ℕ) (u : Actor) → j ≢ m → get_elem? us j ≡ some u → view_of words hist ds j u ≡ view_of words' hist' ds' j u)
    → set (views_from words hist ds 0 us) m (view_of words' hist' ds' m a') ≡ views_from words' hist' ds' 0 (set us m a')
set_all words words' hist hist' ds ds' m us a' same = let z : m ≡ 0 + m = omega arith in
    ap (λ j. set (views_from words hist ds 0 us) m (view_of words' hist' ds' j a')) z
    ∙ views_set words words' hist hist' ds ds' 0 m us a' (λ j u ne e. let y : j ≡ 0 + j = omega arith in subst (λ i. view_of words hist ds i u ≡ view_of words' hist' ds' i u) y (same j u ne e))

module _ (s : State) (hist : List Request) (ds : List Done) (L : LivesWith s hist ds) (id : ℕ) (a : Actor) (at : get_elem? s.actors id ≡ some a) where
  pub here : get_elem? (views_from s.words hist ds 0 s.actors) id ≡ some (view_of s.words hist ds id a)
  here = at_all s.words hist ds s.actors id a at

  -- who else holds, while this actor does or nobody does
  pub other_holds_not : (a.holds ≡ true) → (j : ℕ) (u : Actor) → j ≢ id → get_elem? s.actors j ≡ some u → u.holds ≡ false
  other_holds_not has j u other there = held_not u.holds (λ h. other ((L.rule.held j (view_of s.words hist ds j u) (at_all s.words hist ds s.actors j u there) (ap (λ b. (hold_of b s.words hist).holds) h)).here
      ∙ sym (L.rule.held id (view_of s.words hist ds id a) here (ap (λ b. (hold_of b s.words hist).holds) has)).here))

  pub nobody_holds : get_or s.words 1 0 ≡ 0 → (j : ℕ) (u : Actor) → get_elem? s.actors j ≡ some u → u.holds ≡ false
  nobody_holds is_free j u there = held_not u.holds (λ h. let l = (L.rule.held j (view_of s.words hist ds j u) (at_all s.words hist ds s.actors j u there) (ap (λ b. (hold_of b s.words hist).holds) h)).locked in omega arith)

-- who made the records is known as before
pub still_known : (ds : List Done) (us : List Actor) (j : ℕ) (a' : Actor) → ((i : ℕ) (d : Done) → get_elem? ds i ≡ some d → d.actor < length us) → (i : ℕ) (d : Done) → get_elem? ds i ≡ some d → d.actor < length (set us j a')
still_known ds us j a' known i d e = let n = length-set us j a' in let k = known i d e in omega arith

-- and of one record more
pub one_known : (ds : List Done) (us : List Actor) (j : ℕ) (a a' : Actor) (r : Done) → get_elem? us j ≡ some a → r.actor ≡ j → ((i : ℕ) (d : Done) → get_elem? ds i ≡ some d → d.actor < length us)
    → (i : ℕ) (d : Done) → get_elem? (ds ++ r ∷ []) i ≡ some d → d.actor < length (set us j a')
one_known ds us j a a' r at is known i d e = let n = length-set us j a' in
    ⊎_elim (λ (h : get_elem? ds i ≡ some d). let k = known i d h in omega arith)
    (λ (h : r ≡ d). let same : d.actor ≡ j = sym (ap (λ (x : Done). x.actor) h) ∙ is in let less = within_list us j a at in omega arith) (at_snoc ds r d i e)

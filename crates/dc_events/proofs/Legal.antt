-- Records that stand in one history, of which each call of the history has one, are legal.
use Rattle.std.proofs.Common.{◌≡◌, ℕ, zero, suc, ◌+◌, ◌<◌, ◌≤◌, ◌≢◌, ◌⊎◌, Bool, true, false, ltb, eqb, ◌&&◌, List, [], ◌∷◌, ◌++◌, length, get_or, set, take, sym, refl, ap, ◌∙◌, subst, ⊎_elim, inl, inr, arith, true≢false, lt-ltb, le-ltb, eq-eqb, ne_eqb, cond}
use mathlib.Core.Logic.{dite}
use mathlib.Core.Option.{some, some-injective, some-ne-none}
use native.Mathlib.Decide.{ℕ_discrete, dec_lt}
use lib.ListN.{get_elem?}
use Rattle.dc_plain.specs.LivingLaws.{SameTreeDecides}
use Rattle.dc_plain.specs.Requests.{Request}
use Rattle.dc_plain.specs.Trees.{Tree}
use Rattle.dc_plain.specs.Runs.{reply_of, tree_after, alters}
use Rattle.dc_events.specs.Views.{Record}
use Rattle.dc_events.specs.Standing.{tree_of, Stands, weight, after, Rising, hit, hits, all_hits}
use Rattle.dc_events.specs.Rule.{once_below}
use Rattle.dc_events.specs.Legal.{Runs, Merges, Legal}
use Rattle.dc_events.proofs.Records.{tree_of-snoc, no_hit, unaltered}
use Rattle.atomic_table.proofs.Lists.{at_set}

take_more : (h : List Request) (k : ℕ) (c : Request) → get_elem? h k ≡ some c → take (suc k) h ≡ take k h ++ c ∷ []
take_more [] k c e = absurd (some-ne-none c (sym e))
take_more (x ∷ xs) zero c e = ap (λ z. z ∷ []) (some-injective x c e)
take_more (x ∷ xs) (suc k) c e = ap (λ l. x ∷ l) (take_more xs k c e)

-- sums over strands
all_set : (p : ℕ) (ss : List (List Record)) (i : ℕ) (s s' : List Record) → get_elem? ss i ≡ some s → all_hits p (set ss i s') + hits p s ≡ all_hits p ss + hits p s'
all_set p [] i s s' e = absurd (some-ne-none s (sym e))
all_set p (x ∷ xs) zero s s' e = let is : hits p x ≡ hits p s = ap (hits p) (some-injective x s e) in omega arith
all_set p (x ∷ xs) (suc i) s s' e = let r = all_set p xs i s s' e in omega arith

all_one : (p : ℕ) (ss : List (List Record)) (i : ℕ) (s : List Record) → get_elem? ss i ≡ some s → hits p s ≤ all_hits p ss
all_one p [] i s e = absurd (some-ne-none s (sym e))
all_one p (x ∷ xs) zero s e = let is : hits p x ≡ hits p s = ap (hits p) (some-injective x s e) in omega arith
all_one p (x ∷ xs) (suc i) s e = let r = all_one p xs i s e in omega arith

all_two : (p : ℕ) (ss : List (List Record)) (i j : ℕ) (s u : List Record) → i ≢ j → get_elem? ss i ≡ some s → get_elem? ss j ≡ some u → hits p s + hits p u ≤ all_hits p ss
all_two p [] i j s u ne e d = absurd (some-ne-none s (sym e))
all_two p (x ∷ xs) zero zero s u ne e d = absurd (ne refl)
all_two p (x ∷ xs) zero (suc j) s u ne e d = let is : hits p x ≡ hits p s = ap (hits p) (some-injective x s e) in let r = all_one p xs j u d in omega arith
all_two p (x ∷ xs) (suc i) zero s u ne e d = let is : hits p x ≡ hits p u = ap (hits p) (some-injective x u d) in let r = all_one p xs i s e in omega arith
all_two p (x ∷ xs) (suc i) (suc j) s u ne e d = let r = all_two p xs i j s u (λ h. ne (ap suc h)) e d in omega arith

all_none : (p : ℕ) (ss : List (List Record)) → ((i : ℕ) (s : List Record) → get_elem? ss i ≡ some s → hits p s ≡ 0) → all_hits p ss ≡ 0
all_none p [] zeros = refl
all_none p (x ∷ xs) zeros = let a = zeros 0 x refl in let b = all_none p xs (λ i. zeros (suc i)) in omega arith

abbrev size : List (List Record) → ℕ
size [] = 0
size (s ∷ ss) = length s + size ss

size_set : (ss : List (List Record)) (i : ℕ) (r : Record) (rest : List Record) → get_elem? ss i ≡ some (r ∷ rest) → size (set ss i rest) + 1 ≡ size ss
size_set [] i r rest e = absurd (some-ne-none (r ∷ rest) (sym e))
size_set (s ∷ ss) zero r rest e = let l : length s ≡ suc (length rest) = ap length (some-injective s (r ∷ rest) e) in omega arith
size_set (s ∷ ss) (suc i) r rest e = let m = size_set ss i r rest e in omega arith

size_one : (ss : List (List Record)) (i : ℕ) (s : List Record) → get_elem? ss i ≡ some s → length s ≤ size ss
size_one [] i s e = absurd (some-ne-none s (sym e))
size_one (x ∷ xs) zero s e = let is : length x ≡ length s = ap length (some-injective x s e) in omega arith
size_one (x ∷ xs) (suc i) s e = let m = size_one xs i s e in omega arith

empty : (s : List Record) → length s ≡ 0 → s ≡ []
empty [] e = refl
empty (x ∷ xs) e = absurd (omega arith)

hit_if : (a b : Bool) → b ≡ false → (cond (a && b) 1 0) ≡ zero
hit_if true false e = refl
hit_if false false e = refl
hit_if a true e = absurd (true≢false e)

hit_other : (p : ℕ) (r : Record) → r.at ≢ p → hit p r ≡ 0
hit_other p r ne = hit_if r.altered (eqb r.at p) (ne_eqb r.at p ne)

hit_one : (p : ℕ) (r : Record) → r.altered ≡ true → r.at ≡ p → hit p r ≡ 1
hit_one p r e here = let x = eq-eqb r.at p here in rw (e, x) refl

later_none : (p at : ℕ) (s : List Record) → Rising at s → p < at → hits p s ≡ 0
later_none p at [] up less = refl
later_none p at (r ∷ rs) up less = let le = up.0 in let a = hit_other p r (λ e. omega arith) in let b = later_none p (after r) rs up.1 (omega arith) in omega arith

later_on : (at at' : ℕ) (s : List Record) → Rising at s → ((r : Record) (rest : List Record) → s ≡ r ∷ rest → at' ≤ r.at) → Rising at' s
later_on at at' [] up le = tt
later_on at at' (r ∷ rs) up le = (le r rs refl, up.1)

same_bool : (a b : Bool) → (a ≡ b) ⊎ (a ≡ b → ⊥)
same_bool true true = inl refl
same_bool false false = inl refl
same_bool true false = inr true≢false
same_bool false true = inr (λ e. true≢false (sym e))

-- a strand whose first record is at this point, and altered or not
record Head (ss : List (List Record)) (at : ℕ) (flag : Bool) : Type 0 where
  pub place : ℕ
  pub first : Record
  pub rest : List Record
  pub there : get_elem? ss place ≡ some (first ∷ rest)
  pub here : first.at ≡ at
  pub is : first.altered ≡ flag

abbrev NoHead : List (List Record) → ℕ → Bool → Type 0
NoHead ss at flag = (i : ℕ) (r : Record) (rest : List Record) → get_elem? ss i ≡ some (r ∷ rest) → r.at ≡ at → r.altered ≡ flag → ⊥

head_of : (s : List Record) (ss : List (List Record)) (at : ℕ) (flag : Bool) → Head (s ∷ ss) at flag ⊎ ((r : Record) (rest : List Record) → s ≡ r ∷ rest → r.at ≡ at → r.altered ≡ flag → ⊥)
head_of [] ss at flag = inr (λ r rest e _ _. let l : zero ≡ suc (length rest) = ap length e in omega arith)
head_of (x ∷ xs) ss at flag = dite (ℕ_discrete x.at at)
    (λ here. ⊎_elim (λ (is : x.altered ≡ flag). inl record { place = 0; first = x; rest = xs; there = refl; here = here; is = is })
    (λ (other : x.altered ≡ flag → ⊥). inr (λ r rest e _ is. other (ap (λ (z : Record). z.altered) (ap (λ l. get_or l 0 x) e) ∙ is))) (same_bool x.altered flag))
    (λ other. inr (λ r rest e here _. other (ap (λ (z : Record). z.at) (ap (λ l. get_or l 0 x) e) ∙ here)))

find : (ss : List (List Record)) (at : ℕ) (flag : Bool) → Head ss at flag ⊎ NoHead ss at flag
find [] at flag = inr (λ i r rest e. absurd (some-ne-none (r ∷ rest) (sym e)))
find (s ∷ ss) at flag = ⊎_elim (λ (h : Head ss at flag). inl record { place = suc h.place; first = h.first; rest = h.rest; there = h.there; here = h.here; is = h.is })
    (λ (others : NoHead ss at flag). ⊎_elim (λ (h : Head (s ∷ ss) at flag). inl h) (λ (mine : (r : Record) (rest : List Record) → s ≡ r ∷ rest → r.at ≡ at → r.altered ≡ flag → ⊥). inr (both others mine)) (head_of s ss at flag)) (find ss at flag)
  where
    both : NoHead ss at flag → ((r : Record) (rest : List Record) → s ≡ r ∷ rest → r.at ≡ at → r.altered ≡ flag → ⊥) → NoHead (s ∷ ss) at flag
    both others mine zero r rest e = mine r rest (some-injective s (r ∷ rest) e)
    both others mine (suc i) r rest e = others i r rest e

not_true : (b : Bool) → (b ≡ true → ⊥) → b ≡ false
not_true true other = absurd (other refl)
not_true false other = refl

once_most : (p n : ℕ) → once_below p n ≤ 1
once_most p n = small (ltb p n)
  where
    small : (b : Bool) → cond b 1 0 ≤ suc zero
    small true = omega arith
    small false = omega arith

-- what is left of the strands once all before this point are placed
record Ready (limit : ℕ) (h : List Request) (ss : List (List Record)) (at : ℕ) : Type 0 where
  pub stand : (i : ℕ) (s : List Record) → get_elem? ss i ≡ some s → (j : ℕ) (r : Record) → get_elem? s j ≡ some r → Stands limit h r
  pub rising : (i : ℕ) (s : List Record) → get_elem? ss i ≡ some s → Rising at s
  pub once : (p : ℕ) → at ≤ p → all_hits p ss ≡ once_below p (length h)
  pub early : at ≤ length h

module _ {limit : ℕ} {h : List Request} {ss : List (List Record)} {at : ℕ} (R : Ready limit h ss at) where
  abbrev t : Tree
  t = tree_of limit (take at h)

  head_stands : (flag : Bool) (H : Head ss at flag) → Stands limit h H.first
  head_stands flag H = R.stand H.place (H.first ∷ H.rest) H.there 0 H.first refl

  stand_after : (flag : Bool) (H : Head ss at flag) → (i : ℕ) (s : List Record) → get_elem? (set ss H.place H.rest) i ≡ some s → (j : ℕ) (r : Record) → get_elem? s j ≡ some r → Stands limit h r
  stand_after flag H i s e j r f = ⊎_elim (λ (m : (i ≡ H.place) × (H.rest ≡ s)). R.stand H.place (H.first ∷ H.rest) H.there (suc j) r (ap (λ l. get_elem? l j) m.1 ∙ f))
      (λ (m : (i ≢ H.place) × (get_elem? ss i ≡ some s)). R.stand i s m.1 j r f) (at_set ss H.place i H.rest s e)

  replies : (flag : Bool) (H : Head ss at flag) → (reply_of limit t H.first.call ≡ H.first.reply) × (alters limit t H.first.call ≡ H.first.altered)
  replies flag H = let s = head_stands flag H in let e = ap (λ k. tree_of limit (take k h)) H.here in (ap (λ z. reply_of limit z H.first.call) (sym e) ∙ s.replied, ap (λ z. alters limit z H.first.call) (sym e) ∙ s.altering)

  -- a record that altered nothing goes first
  flat_ready : (H : Head ss at false) → Ready limit h (set ss H.place H.rest) at
  flat_ready H = record {
    stand = stand_after false H;
    rising = λ i s e. ⊎_elim (λ (m : (i ≡ H.place) × (H.rest ≡ s)). let up = R.rising H.place (H.first ∷ H.rest) H.there in let w : weight H.first.altered ≡ 0 = ap weight H.is in let here = H.here in
        subst (λ z. Rising z s) (omega arith) (subst (λ l. Rising (after H.first) l) m.1 up.1)) (λ (m : (i ≢ H.place) × (get_elem? ss i ≡ some s)). R.rising i s m.1) (at_set ss H.place i H.rest s e);
    once = λ p le. let a = all_set p ss H.place (H.first ∷ H.rest) H.rest H.there in let z = no_hit p H.first H.is in let o = R.once p le in omega arith;
    early = R.early;
  }

  -- if none is left that altered nothing, the one that altered goes
  one_here : (H : Head ss at true) → at < length h
  one_here H = let one = hit_one at H.first H.is H.here in let m = all_one at ss H.place (H.first ∷ H.rest) H.there in let o = R.once at (omega arith) in dite (dec_lt at (length h)) (λ less. less)
      (λ more. let z : once_below at (length h) ≡ 0 = ap (λ b. cond b 1 0) (le-ltb at (length h) (omega arith)) in absurd (omega arith))

  only_one : (H : Head ss at true) → NoHead ss at false → (i : ℕ) (r : Record) (rest : List Record) → i ≢ H.place → get_elem? ss i ≡ some (r ∷ rest) → suc at ≤ r.at
  only_one H none_flat i r rest ne e = let up = R.rising i (r ∷ rest) e in let low = up.0 in dite (ℕ_discrete r.at at)
      (λ here. ⊎_elim (λ (is : r.altered ≡ true). let a = hit_one at H.first H.is H.here in let b = hit_one at r is here in let m = all_two at ss i H.place (r ∷ rest) (H.first ∷ H.rest) ne e H.there in let o = R.once at (omega arith) in
      let u : once_below at (length h) ≤ 1 = once_most at (length h) in absurd (omega arith)) (λ (other : r.altered ≡ true → ⊥). absurd (none_flat i r rest e here (not_true r.altered other))) (same_bool r.altered true))
      (λ other. omega arith)

  next_ready : (H : Head ss at true) → NoHead ss at false → Ready limit h (set ss H.place H.rest) (suc at)
  next_ready H none_flat = record {
    stand = stand_after true H;
    rising = λ i s e. ⊎_elim (λ (m : (i ≡ H.place) × (H.rest ≡ s)). let up = R.rising H.place (H.first ∷ H.rest) H.there in let w : weight H.first.altered ≡ 1 = ap weight H.is in let here = H.here in
        subst (λ z. Rising z s) (omega arith) (subst (λ l. Rising (after H.first) l) m.1 up.1))
        (λ (m : (i ≢ H.place) × (get_elem? ss i ≡ some s)). later_on at (suc at) s (R.rising i s m.1) (λ r rest is. only_one H none_flat i r rest m.0 (m.1 ∙ ap some is))) (at_set ss H.place i H.rest s e);
    once = λ p le. let a = all_set p ss H.place (H.first ∷ H.rest) H.rest H.there in let here = H.here in let z = hit_other p H.first (λ e. omega arith) in let o = R.once p (omega arith) in omega arith;
    early = one_here H;
  }

  next_tree : (H : Head ss at true) → tree_after limit t H.first.call ≡ tree_of limit (take (suc at) h)
  next_tree H = let placed = subst (λ k. get_elem? h k ≡ some H.first.call) H.here ((head_stands true H).placed H.is) in sym (ap (tree_of limit) (take_more h at H.first.call placed) ∙ tree_of-snoc limit (take at h) H.first.call)

  -- if no strand has a record at this point, none has one at all
  all_placed : NoHead ss at false → NoHead ss at true → (i : ℕ) (s : List Record) → get_elem? ss i ≡ some s → s ≡ []
  all_placed flat alt i [] e = refl
  all_placed flat alt i (r ∷ rest) e = let past : (j : ℕ) (s : List Record) → get_elem? ss j ≡ some s → hits at s ≡ 0 = λ j s f. later_none at (suc at) s (later_on at (suc at) s (R.rising j s f) (λ q qs is. let f' = f ∙ ap some is in
      let low = (R.rising j (q ∷ qs) f').0 in dite (ℕ_discrete q.at at) (λ here. ⊎_elim (λ (a : q.altered ≡ true). absurd (alt j q qs f' here a)) (λ (other : q.altered ≡ true → ⊥). absurd (flat j q qs f' here (not_true q.altered other))) (same_bool q.altered true))
      (λ other. omega arith))) (omega arith) in let z = all_none at ss past in let o = R.once at (omega arith) in let w = (R.stand i (r ∷ rest) e 0 r refl).within in let low = (R.rising i (r ∷ rest) e).0 in
      dite (ℕ_discrete r.at at) (λ here. ⊎_elim (λ (a : r.altered ≡ true). absurd (alt i r rest e here a)) (λ (other : r.altered ≡ true → ⊥). absurd (flat i r rest e here (not_true r.altered other))) (same_bool r.altered true))
      (λ other. let less : at < length h = omega arith in let one : once_below at (length h) ≡ 1 = ap (λ b. cond b 1 0) (lt-ltb at (length h) less) in absurd (omega arith))

schedule : SameTreeDecides → (limit : ℕ) (h : List Request) (fuel : ℕ) (ss : List (List Record)) (at : ℕ) → Ready limit h ss at → size ss ≡ fuel → (xs : List Record) × Merges ss xs × Runs limit (tree_of limit (take at h)) at xs
schedule same_so limit h zero ss at R is = ([], (λ i s e. let l = size_one ss i s e in empty s (omega arith)), tt)
schedule same_so limit h (suc fuel) ss at R is = ⊎_elim (λ (H : Head ss at false). let m = size_set ss H.place H.first H.rest H.there in let r = schedule same_so limit h fuel (set ss H.place H.rest) at (flat_ready R H) (omega arith) in let p = replies R false H in (
  H.first ∷ r.0,
  (H.place, H.rest, H.there, r.1),
  (
    H.here,
    p.0,
    p.1,
    let w : weight H.first.altered ≡ 0 = ap weight H.is in let same : at ≡ at + weight H.first.altered = omega arith in
        subst (λ (z : Tree × ℕ). Runs limit z.0 z.1 r.0) (λ i. (sym (unaltered same_so limit (tree_of limit (take at h)) H.first.call (p.1 ∙ H.is)) i, same i)) r.2,
  ),
))
    (λ (flat : NoHead ss at false). ⊎_elim (λ (H : Head ss at true). let m = size_set ss H.place H.first H.rest H.there in let r = schedule same_so limit h fuel (set ss H.place H.rest) (suc at) (next_ready R H flat) (omega arith) in let p = replies R true H in (
      H.first ∷ r.0,
      (H.place, H.rest, H.there, r.1),
      (
        H.here,
        p.0,
        p.1,
        let w : weight H.first.altered ≡ 1 = ap weight H.is in let same : suc at ≡ at + weight H.first.altered = omega arith in subst (λ (z : Tree × ℕ). Runs limit z.0 z.1 r.0) (λ i. (sym (next_tree R H) i, same i)) r.2,
      ),
    ))
    (λ (alt : NoHead ss at true). ([], all_placed R flat alt, tt)) (find ss at true)) (find ss at false)

-- the records of strands that rise, stand in one history, and of which each of its calls has just one
pub legal : SameTreeDecides → (limit : ℕ) (h : List Request) (ss : List (List Record)) → ((i : ℕ) (s : List Record) → get_elem? ss i ≡ some s → (j : ℕ) (r : Record) → get_elem? s j ≡ some r → Stands limit h r)
    → ((i : ℕ) (s : List Record) → get_elem? ss i ≡ some s → Rising 0 s) → ((p : ℕ) → all_hits p ss ≡ once_below p (length h)) → Legal limit ss
legal same_so limit h ss stand rising once = let r = schedule same_so limit h (size ss) ss 0 record { stand = stand; rising = rising; once = λ p _. once p; early = omega arith } refl in record { order = r.0; merges = r.1; runs = r.2 }

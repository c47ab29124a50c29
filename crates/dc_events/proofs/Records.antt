-- Of trees, histories and strands of records.
use Rattle.std.proofs.Common.{◌≡◌, ℕ, ◌+◌, ◌≤◌, Bool, true, false, not, ltb, eqb, List, [], ◌∷◌, ◌++◌, length, take, sym, refl, ap, ◌∙◌, subst, arith, eq-eqb, ne_eqb, lt-ltb, le-ltb, take_all, le_refl, true≢false, cond, length-append, ⊎_elim}
use mathlib.Core.Logic.{dite}
use native.Mathlib.Decide.{ℕ_discrete, dec_lt}
use Rattle.dc_plain.specs.Requests.{Request}
use Rattle.dc_plain.specs.Trees.{Tree, empty_tree}
use Rattle.dc_plain.specs.IsWellFormed.{IsWellFormed}
use Rattle.dc_plain.specs.Runs.{reply_of, tree_after, tree_after_all, alters, same_tree}
use Rattle.dc_plain.specs.LivingLaws.{SameTreeDecides}
use Rattle.dc_events.specs.Laws.{TreeLaws}
use Rattle.dc_events.specs.Views.{Record}
use Rattle.dc_events.specs.Standing.{tree_of, Stands, after, Rising, ends, hit, hits}
use Rattle.dc_events.specs.Rule.{StrandFits, once_below}
use Rattle.dc_events.specs.Effects.{record_of}
use Rattle.dc_events.proofs.Later.{strand_later, take_later}
use Rattle.atomic_table.proofs.Lists.{at_snoc, at_last}

tree_snoc : (limit : ℕ) (t : Tree) (h : List Request) (c : Request) → tree_after_all limit t (h ++ c ∷ []) ≡ tree_after limit (tree_after_all limit t h) c
tree_snoc limit t [] c = refl
tree_snoc limit t (x ∷ xs) c = tree_snoc limit (tree_after limit t x) xs c

pub tree_of-snoc : (limit : ℕ) (h : List Request) (c : Request) → tree_of limit (h ++ c ∷ []) ≡ tree_after limit (tree_of limit h) c
tree_of-snoc limit h c = tree_snoc limit empty_tree h c

pub well_formed : TreeLaws → (limit : ℕ) (h : List Request) → IsWellFormed (tree_of limit h)
well_formed laws limit h = laws.runs limit empty_tree h laws.opening

unless : SameTreeDecides → (t u : Tree) (b : Bool) → same_tree u t ≡ b → not b ≡ false → u ≡ t
unless same t u true is e = (same u t).0 is
unless same t u false is e = absurd (true≢false e)

-- a call that doesn't alter leaves the tree
pub unaltered : SameTreeDecides → (limit : ℕ) (t : Tree) (c : Request) → alters limit t c ≡ false → tree_after limit t c ≡ t
unaltered same limit t c e = unless same t (tree_after limit t c) (same_tree (tree_after limit t c) t) refl e

pub take_whole : (h : List Request) → take (length h) h ≡ h
take_whole h = take_all (length h) h (le_refl (length h))

-- the record of a call that is made now stands
pub stands_now : (limit : ℕ) (hist : List Request) (call : Request) → alters limit (tree_of limit hist) call ≡ false → Stands limit hist (record_of limit hist call)
stands_now limit hist call same = let whole = take_whole hist in record {
  within = le_refl (length hist);
  replied = ap (λ h. reply_of limit (tree_of limit h) call) whole;
  altering = ap (λ h. alters limit (tree_of limit h) call) whole;
  placed = λ a. absurd (true≢false (sym a ∙ same));
}

pub stands_committed : (limit : ℕ) (hist : List Request) (call : Request) → Stands limit (hist ++ call ∷ []) (record_of limit hist call)
stands_committed limit hist call = let whole : take (length hist) (hist ++ call ∷ []) ≡ hist = take_later hist (hist ++ call ∷ []) (call ∷ []) (length hist) refl (le_refl (length hist)) ∙ take_whole hist in record {
  within = let l : length (hist ++ call ∷ []) ≡ length hist + 1 = length-append hist (call ∷ []) in omega arith;
  replied = ap (λ h. reply_of limit (tree_of limit h) call) whole;
  altering = ap (λ h. alters limit (tree_of limit h) call) whole;
  placed = λ _. at_last hist call (length hist) refl;
}

ends_snoc : (p : ℕ) (s : List Record) (r : Record) → ends p (s ++ r ∷ []) ≡ after r
ends_snoc p [] r = refl
ends_snoc p (x ∷ xs) r = ends_snoc (after x) xs r

rising_snoc : (p : ℕ) (s : List Record) (r : Record) → Rising p s → ends p s ≤ r.at → Rising p (s ++ r ∷ [])
rising_snoc p [] r up le = (le, tt)
rising_snoc p (x ∷ xs) r up le = (up.0, rising_snoc (after x) xs r up.1 le)

pub hits_snoc : (p : ℕ) (s : List Record) (r : Record) → hits p (s ++ r ∷ []) ≡ hits p s + hit p r
hits_snoc p [] r = omega arith
hits_snoc p (x ∷ xs) r = let h = hits_snoc p xs r in omega arith

pub strand_snoc : (limit : ℕ) (hist hist' ext : List Request) (seen seen' : ℕ) (s : List Record) (r : Record) → hist' ≡ hist ++ ext → StrandFits limit hist seen s → Stands limit hist' r → ends 0 s ≤ r.at → after r ≤ seen'
    → StrandFits limit hist' seen' (s ++ r ∷ [])
strand_snoc limit hist hist' ext seen seen' s r is f stands low high = let g = strand_later limit hist hist' ext is seen s f in record {
  stand = λ i x at. ⊎_elim (g.stand i x) (λ (e : r ≡ x). subst (Stands limit hist') e stands) (at_snoc s r x i at);
  rising = rising_snoc 0 s r f.rising low;
  within = let e = ends_snoc 0 s r in omega arith;
}

pub strand_more : (limit : ℕ) (hist : List Request) (seen seen' : ℕ) (s : List Record) → seen ≤ seen' → StrandFits limit hist seen s → StrandFits limit hist seen' s
strand_more limit hist seen seen' s le f = record { stand = f.stand; rising = f.rising; within = let w = f.within in omega arith }

-- one more call in the history, and one more record that altered at its end
once_more : (p n : ℕ) → cond (eqb n p) 1 0 + once_below p n ≡ once_below p (n + 1)
once_more p n = dite (ℕ_discrete n p)
    (λ e. let a = eq-eqb n p e in let b : ltb p n ≡ false = le-ltb p n (omega arith) in let c : ltb p (n + 1) ≡ true = lt-ltb p (n + 1) (omega arith) in rw (a, b, c) refl)
    (λ ne. let a = ne_eqb n p ne in dite (dec_lt p n)
    (λ less. let b : ltb p n ≡ true = lt-ltb p n less in let c : ltb p (n + 1) ≡ true = lt-ltb p (n + 1) (omega arith) in rw (a, b, c) refl)
    (λ more. let b : ltb p n ≡ false = le-ltb p n (omega arith) in let c : ltb p (n + 1) ≡ false = le-ltb p (n + 1) (omega arith) in rw (a, b, c) refl))

pub no_hit : (p : ℕ) (r : Record) → r.altered ≡ false → hit p r ≡ 0
no_hit p r e = rw e refl

pub hit_here : (p n : ℕ) (r : Record) → r.altered ≡ true → r.at ≡ n → hit p r + once_below p n ≡ once_below p (n + 1)
hit_here p n r e here = rw (e, here) (once_more p n)

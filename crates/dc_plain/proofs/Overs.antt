-- An entry that leads elsewhere, in place of where it led.
use Rattle.std.proofs.Common.{◌≡◌, ℕ, ◌+◌, List, Bool, true, false, cond, Option, Some, None, IsSome, IsTrue, refl, ap, sym, ◌∙◌, arith, find, subst}
use Rattle.std.specs.Ordering.{eq_by_cmp, is_eq}
use Rattle.std.specs.declared.cmp.Ordering.TheVariants.{Equal}
use Rattle.std.specs.FinMap.Entries.{put, find-put, is_sorted, is_sorted-put, is_sorted-where_key, same_entries}
use Rattle.std.specs.FinMap.Entries.{find as lookup}
use Rattle.std.specs.List.{AllByRecursion}
use Rattle.dc_plain.specs.Trees.{Spot, spot_cmp, how_many, without_spot}
use Rattle.dc_plain.proofs.Made.{spots_total, to_test, from_test}
use Rattle.dc_plain.proofs.Puts.{count-put, find-put_no, All-put}
use Rattle.dc_plain.proofs.SameFacts.{same_spot, tied}
use Rattle.dc_plain.proofs.Takes.{All-filter, count-take, find-take, lookup-take}

one_spot : (a b : Spot) → spot_cmp a b ≡ Equal → a ≡ b
one_spot a b e = same_spot a b (ap is_eq e)

-- either way round two names tie or do not
pub ties_back : (a b : Spot) → eq_by_cmp spot_cmp a b ≡ false → eq_by_cmp spot_cmp b a ≡ false
ties_back a b e = by_test (eq_by_cmp spot_cmp b a) refl
  where
    by_test : (o : Bool) → eq_by_cmp spot_cmp b a ≡ o → o ≡ false
    by_test false is = refl
    by_test true is = sym (tied b.dir b.name) ∙ ap (λ (s : Spot). eq_by_cmp spot_cmp s b) (same_spot b a is) ∙ e

module _ (spot : Spot) (v : ℕ) (es : List (Spot × ℕ)) (sorted : IsTrue (is_sorted spot_cmp es)) where
  gone : lookup spot_cmp spot (without_spot spot es) ≡ None
  gone = lookup-take spot_cmp spots_total spot spot es ∙ rw (tied spot.dir spot.name) refl

  -- as if the entry had gone first
  afresh : put spot_cmp spot v es ≡ put spot_cmp spot v (without_spot spot es)
  afresh = same_entries spot_cmp spots_total one_spot (put spot_cmp spot v es) (put spot_cmp spot v (without_spot spot es))
      (is_sorted-put spot_cmp spots_total spot v es (to_test _ sorted))
      (is_sorted-put spot_cmp spots_total spot v (without_spot spot es) (is_sorted-where_key spot_cmp _ es (to_test _ sorted)))
      (λ q. find-put spot_cmp spots_total q spot v es ∙ same q ∙ sym (find-put spot_cmp spots_total q spot v (without_spot spot es)))
    where
      same : (q : Spot) → cond (eq_by_cmp spot_cmp q spot) (Some v) (lookup spot_cmp q es) ≡ cond (eq_by_cmp spot_cmp q spot) (Some v) (lookup spot_cmp q (without_spot spot es))
      same q = by_test (eq_by_cmp spot_cmp q spot) refl
        where
          by_test : (b : Bool) → eq_by_cmp spot_cmp q spot ≡ b → cond b (Some v) (lookup spot_cmp q es) ≡ cond b (Some v) (lookup spot_cmp q (without_spot spot es))
          by_test true is = refl
          by_test false is = sym (lookup-take spot_cmp spots_total spot q es ∙ rw (ties_back q spot is) refl)

  module _ (old : ℕ) (stood : lookup spot_cmp spot es ≡ Some old) where
    -- one that passes less or more
    pub count-over : (p : ℕ → Bool) → how_many (λ (e : Spot × ℕ). p e.1) (put spot_cmp spot v es) + cond (p old) 1 0 ≡ how_many (λ (e : Spot × ℕ). p e.1) es + cond (p v) 1 0
    count-over p =
        let more = count-put spot_cmp spot v (λ e. p e.1) (without_spot spot es) gone in
        let less = count-take spot_cmp spots_total spot p old es (to_test _ sorted) stood in
        rw afresh (omega arith)

    -- what passes neither before nor after isn't found there
    pub find-over : (p : ℕ → Bool) → p v ≡ false → p old ≡ false → find (λ (e : Spot × ℕ). p e.1) (put spot_cmp spot v es) ≡ find (λ (e : Spot × ℕ). p e.1) es
    find-over p fails failed =
        ap (find (λ (e : Spot × ℕ). p e.1)) afresh
        ∙ find-put_no spot_cmp spot v (λ e. p e.1) (without_spot spot es) gone fails
        ∙ find-take spot_cmp spots_total spot p old es (to_test _ sorted) stood failed

    pub All-over : (P : Spot × ℕ → Type 0) → P (spot, v) → AllByRecursion P es → AllByRecursion P (put spot_cmp spot v es)
    All-over P here all = subst (AllByRecursion P) (sym afresh) (All-put spot_cmp spot v P (without_spot spot es) gone here (All-filter P _ es all))

-- the entries stay in order, and each that stood stands
pub redirected_sorted : (spot : Spot) (v : ℕ) (es : List (Spot × ℕ)) → IsTrue (is_sorted spot_cmp es) → IsTrue (is_sorted spot_cmp (put spot_cmp spot v es))
redirected_sorted spot v es sorted = from_test _ (is_sorted-put spot_cmp spots_total spot v es (to_test _ sorted))

pub redirected_there : (spot other : Spot) (v : ℕ) (es : List (Spot × ℕ)) → IsSome (lookup spot_cmp other es) → IsSome (lookup spot_cmp other (put spot_cmp spot v es))
redirected_there spot other v es there = subst IsSome (sym (find-put spot_cmp spots_total other spot v es)) (by_test (eq_by_cmp spot_cmp other spot))
  where
    by_test : (b : Bool) → IsSome (cond b (Some v) (lookup spot_cmp other es))
    by_test true = refl
    by_test false = there

pub some_there : (spot : Spot) (es : List (Spot × ℕ)) → IsSome (lookup spot_cmp spot es) → (old : ℕ) × (lookup spot_cmp spot es ≡ Some old)
some_there spot es there = by_option (lookup spot_cmp spot es) there
  where
    by_option : (o : Option ℕ) → IsSome o → (old : ℕ) × (o ≡ Some old)
    by_option None is = cc
    by_option (Some old) is = (old, refl)

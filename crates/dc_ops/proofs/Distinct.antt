-- A plan touches each key once.
use Rattle.std.proofs.Common.{◌≡◌, ◌≢◌, ◌⊎◌, inl, inr, arith, ℕ, zero, suc, List, [], ◌∷◌, ◌++◌, Bool, true, false, Option, Some, None, slice_get, refl, ap, sym, ◌∙◌, subst, if◌then◌else◌, ◌==◌}
use Rattle.dc_names.specs.declared.kind.Kind.{Kind}
use Rattle.dc_names.specs.declared.kind.Kind.TheVariants.{Dir, File, Link}
use Rattle.dc_plain.specs.Facts.{Key, Label}
use Rattle.dc_plain.specs.Facts.Label.{Entry, Parent, Text}
use Rattle.dc_plain.specs.KeysShown.{keys_in}
use Rattle.dc_plain.specs.Spots.{spot_at, spot_shown}
use Rattle.dc_plain.specs.TouchedKeys.{keys_gone, keys_at, own_keys, spot_key, with_number}
use Rattle.dc_plain.specs.Trees.{Tree, Spot, Inode, entry_number, inode_of, kind_of, names_of}
use Rattle.dc_store.specs.declared.store.New as rust_new
use Rattle.dc_store.specs.declared.store.New.TheVariants as news
use Rattle.dc_ops.specs.Keys.{AreDistinct, keys_made, keys_of, keys_reparented}
use Rattle.dc_ops.specs.Plans.{CanCarry, Loses}
use Rattle.dc_ops.specs.declared.plans.Plan as rust_plan
use Rattle.dc_ops.specs.declared.plans.Plan.TheVariants as plans

-- a key that isn't there
abbrev Absent : Key → List Key → Type 0
Absent key keys = (i : ℕ) → slice_get keys i ≢ Some key

absent_none : (key : Key) → Absent key []
absent_none key i e = cc

absent_more : (key other : Key) (keys : List Key) → other ≢ key → Absent key keys → Absent key (other ∷ keys)
absent_more key other keys ne rest zero e = ne cc
absent_more key other keys ne rest (suc i) e = rest i e

distinct_none : AreDistinct []
distinct_none i j key e f = cc

distinct_more : (key : Key) (keys : List Key) → Absent key keys → AreDistinct keys → AreDistinct (key ∷ keys)
distinct_more key keys none rest zero zero k e f = refl
distinct_more key keys none rest zero (suc j) k e f = let same : key ≡ k = cc in absurd (none j (f ∙ ap (λ x. Some x) (sym same)))
distinct_more key keys none rest (suc i) zero k e f = let same : key ≡ k = cc in absurd (none i (e ∙ ap (λ x. Some x) (sym same)))
distinct_more key keys none rest (suc i) (suc j) k e f = ap suc (rest i j k e f)

abbrev is_entry : Label → Bool
is_entry (Entry name) = true
is_entry Parent = false
is_entry Text = false

-- no key, or one key of an inode's own
abbrev IsOwn : ℕ → List Key → Type 0
IsOwn n keys = (keys ≡ []) ⊎ ((label : Label) × (is_entry label ≡ false) × (keys ≡ record { number = n; label = label } ∷ []))

own_kind : (n : ℕ) (kind : Kind) → IsOwn n (own_keys n kind)
own_kind n Dir = inr (Parent, refl, refl)
own_kind n File = inl refl
own_kind n Link = inr (Text, refl, refl)

own_made : (n : ℕ) (new : rust_new.New) → IsOwn n (keys_made n new)
own_made n news.Dir = own_kind n Dir
own_made n news.File = inl refl
own_made n (news.Link text) = own_kind n Link
own_made n (news.Same m) = inl refl

own_gone : (t : Tree) (n : ℕ) → IsOwn n (keys_gone t n)
own_gone t n = elim (names_of t n == 1) as (λ b. IsOwn n (if b then keys_at n (inode_of t n) else [])) [
  | true ↦ at (inode_of t n)
  | false ↦ inl refl
]
  where
    at : (o : Option Inode) → IsOwn n (keys_at n o)
    at None = inl refl
    at (Some inode) = own_kind n (kind_of inode)

own_reparented : (n : ℕ) (b : Bool) → IsOwn n (keys_reparented n b)
own_reparented n true = own_kind n Dir
own_reparented n false = inl refl

-- another key isn't among them
absent_own : (n : ℕ) (key : Key) (keys : List Key) → IsOwn n keys → (is_entry key.label ≡ true) ⊎ (key.number ≢ n) → Absent key keys
absent_own n key keys (inl e) other = subst (Absent key) (sym e) (absent_none key)
absent_own n key keys (inr own) other = subst (Absent key) (sym own.2) (absent_more key (record { number = n; label = own.0 }) [] (λ e. differs other e) (absent_none key))
  where
    differs : (is_entry key.label ≡ true) ⊎ (key.number ≢ n) → ◌≡◌ {A = Key} (record { number = n; label = own.0 }) key → ⊥
    differs (inl entry) e = let not_entry : is_entry key.label ≡ false = ap (λ (k : Key). is_entry k.label) (sym e) ∙ own.1 in absurd cc
    differs (inr number) e = number (ap (λ (k : Key). k.number) (sym e))

absent_both : (key : Key) (n : ℕ) (own rest : List Key) → IsOwn n own → Absent key own → Absent key rest → Absent key (own ++ rest)
absent_both key n own rest (inl e) here there = subst (λ keys. Absent key (keys ++ rest)) (sym e) there
absent_both key n own rest (inr some) here there =
    let one : Key = record { number = n; label = some.0 } in
    subst (λ keys. Absent key (keys ++ rest)) (sym some.2) (absent_more key one rest (λ e. here 0 (ap (λ keys. slice_get keys 0) some.2 ∙ ap (λ k. Some k) e)) there)

distinct_own : (n : ℕ) (keys : List Key) → IsOwn n keys → AreDistinct keys
distinct_own n keys (inl e) = subst AreDistinct (sym e) distinct_none
distinct_own n keys (inr some) = subst AreDistinct (sym some.2) (distinct_more (record { number = n; label = some.0 }) [] (absent_none _) distinct_none)

distinct_both : (n m : ℕ) (own rest : List Key) → n ≢ m → IsOwn n own → IsOwn m rest → AreDistinct (own ++ rest)
distinct_both n m own rest ne (inl e) more = subst (λ keys. AreDistinct (keys ++ rest)) (sym e) (distinct_own m rest more)
distinct_both n m own rest ne (inr some) more =
    let one : Key = record { number = n; label = some.0 } in
    subst (λ keys. AreDistinct (keys ++ rest)) (sym some.2) (distinct_more one rest (absent_own m one rest more (inr ne)) (distinct_own m rest more))

-- a name, and keys of inodes of their own
with_name : (n : ℕ) (spot : Spot) (keys : List Key) → IsOwn n keys → AreDistinct (spot_key spot ∷ keys)
with_name n spot keys own = distinct_more (spot_key spot) keys (absent_own n (spot_key spot) keys own (inl refl)) (distinct_own n keys own)

with_names : (n m : ℕ) (from to : Spot) (own rest : List Key) → spot_key to ≢ spot_key from → n ≢ m → IsOwn n own → IsOwn m rest → AreDistinct (spot_key from ∷ spot_key to ∷ own ++ rest)
with_names n m from to own rest apart ne here there =
    let none : (spot : Spot) → Absent (spot_key spot) (own ++ rest) = λ spot. absent_both (spot_key spot) n own rest here (absent_own n (spot_key spot) own here (inl refl)) (absent_own m (spot_key spot) rest there (inl refl)) in
    distinct_more (spot_key from) (spot_key to ∷ own ++ rest) (absent_more (spot_key from) (spot_key to) (own ++ rest) apart (none from))
    (distinct_more (spot_key to) (own ++ rest) (none to) (distinct_both n m own rest ne here there))

same_spot_by : (from to : Spot) → spot_key to ≡ spot_key from → to ≡ from
same_spot_by from to e =
    let label : Entry to.name ≡ Entry from.name = ap (λ (k : Key). k.label) e in
    let dir : to.dir ≡ from.dir = ap (λ (k : Key). k.number) e in
    let name : to.name ≡ from.name = cc in
    λ i. record { dir = dir i; name = name i }

pub plan_distinct : (plan : rust_plan.Plan) (t : Tree) → CanCarry plan t → Loses plan t → AreDistinct (keys_of plan)
plan_distinct (plans.Add dir name new number) t can loses = with_name number (spot_at dir name.bytes.now) (keys_made number new) (own_made number new)
plan_distinct (plans.Drop dir name number kind lost) t can loses = with_name number (spot_at dir name.bytes.now) (keys_in lost) (subst (IsOwn number) (sym loses) (own_gone t number))
plan_distinct (plans.Swap from to first second) t can loses =
    with_names first.number second.number (spot_shown from) (spot_shown to) (keys_reparented first.number first.reparents) (keys_reparented second.number second.reparents)
    (λ e. let both : Some first.number ≡ Some second.number = sym can.first ∙ ap (entry_number t) (sym (same_spot_by (spot_shown from) (spot_shown to) e)) ∙ can.second in let one : first.number ≡ second.number = cc in can.two one)
    can.two (own_reparented first.number first.reparents) (own_reparented second.number second.reparents)
plan_distinct (plans.Move from to number reparents over lost) t can loses = by (entry_number t (spot_shown to)) refl
  where
    apart : spot_key (spot_shown to) ≢ spot_key (spot_shown from)
    apart e = can.1.other (ap (entry_number t) (same_spot_by (spot_shown from) (spot_shown to) e) ∙ can.0)

    by : (there : Option ℕ) → entry_number t (spot_shown to) ≡ there → AreDistinct (keys_of (plans.Move from to number reparents over lost))
    by None e = let none : keys_in lost ≡ [] = loses ∙ ap (λ o. with_number o (keys_gone t)) e in
        with_names number (suc number) (spot_shown from) (spot_shown to) (keys_reparented number reparents) (keys_in lost) apart (λ same. absurd (omega arith)) (own_reparented number reparents) (inl none)
    by (Some m) e = let gone : keys_in lost ≡ keys_gone t m = loses ∙ ap (λ o. with_number o (keys_gone t)) e in
        with_names number m (spot_shown from) (spot_shown to) (keys_reparented number reparents) (keys_in lost) apart (λ same. can.1.other (e ∙ ap (λ k. Some k) (sym same))) (own_reparented number reparents) (subst (IsOwn m) (sym gone) (own_gone t m))

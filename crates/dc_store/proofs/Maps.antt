-- An ordered map, seen as a list of entries under other keys: look-up, insert and remove.
use Rattle.std.proofs.Common.{◌≡◌, ◌+◌, List, [], ◌∷◌, true, false, cond, Some, None, is_some, length, arith, map, option_map, refl, ap, sym, ◌∙◌, T, Bool, not, ◌&&◌}
use Rattle.std.specs.BTreeMap.{is_at, insert_entry}
use Rattle.std.specs.Cmp.{IsTotalOrder, tied_itself}
use Rattle.std.specs.FinMap.Entries.{put, by_order, find-put}
use Rattle.std.specs.FinMap.Entries.{find as lookup_entry}
use Rattle.std.specs.FinMap.Entries.{where_key, below_all, is_sorted, length-put}
use Rattle.std.specs.Ordering.{is_lt}
use Rattle.std.specs.List.{AllByRecursion}
use Rattle.std.specs.Map.{lookup, remove_entry, set_value}
use Rattle.std.specs.declared.cmp.Ordering.{Ordering}
use Rattle.std.specs.declared.cmp.Ordering.TheVariants.{Less, Equal, Greater}
use Rattle.std.specs.Ordering.{match_ordering, eq_by_cmp, is_eq}

module _ {K L X Y : Type 0} (S : L → L → Ordering) (key : K → L) (value : X → Y) where
  -- an entry under its other key
  abbrev pub shown : K × X → L × Y
  shown e = (key e.0, value e.1)

  -- a query compares with the keys as another key with their other keys
  abbrev pub Agree : (K → Ordering) → L → List (K × X) → Type 0
  Agree compare q es = AllByRecursion (λ e. compare e.0 ≡ S q (key e.0)) es

  pub lookup_shown : (compare : K → Ordering) (q : L) (es : List (K × X)) → Agree compare q es → option_map value (lookup (is_at compare) es) ≡ lookup_entry S q (map shown es)
  lookup_shown compare q [] agree = refl
  lookup_shown compare q (e ∷ es) agree =
      ap (λ o. option_map value (cond (is_eq o) (Some e.1) (lookup (is_at compare) es))) agree.0
      ∙ elim (eq_by_cmp S q (key e.0)) as (λ b. option_map value (cond b (Some e.1) (lookup (is_at compare) es)) ≡ cond b (Some (value e.1)) (lookup_entry S q (map shown es))) [
        | true ↦ refl
        | false ↦ lookup_shown compare q es agree.1
      ]

  ordered_shown : (o : Ordering) (es fs gs : List (K × X)) → map shown (match_ordering o es fs gs) ≡ by_order o (map shown es) (map shown fs) (map shown gs)
  ordered_shown Less es fs gs = refl
  ordered_shown Equal es fs gs = refl
  ordered_shown Greater es fs gs = refl

  pub insert_shown : (R : K → K → Ordering) (k : K) (v : X) (es : List (K × X)) → Agree (R k) (key k) es → map shown (insert_entry R es k v) ≡ put S (key k) (value v) (map shown es)
  insert_shown R k v [] agree = refl
  insert_shown R k v (e ∷ es) agree =
      ordered_shown (R k e.0) ((k, v) ∷ e ∷ es) ((e.0, v) ∷ es) (e ∷ insert_entry R es k v)
      ∙ (λ i. by_order (agree.0 i) (shown (k, v) ∷ shown e ∷ map shown es) ((key e.0, value v) ∷ map shown es) (shown e ∷ insert_shown R k v es agree.1 i))

pub keys_insert : {K X : Type 0} (P : K → Type 0) (R : K → K → Ordering) (k : K) (v : X) (es : List (K × X)) → P k → AllByRecursion (λ e. P e.0) es → AllByRecursion (λ e. P e.0) (insert_entry R es k v)
keys_insert P R k v [] here all = (here, tt)
keys_insert P R k v (e ∷ es) here all =
    elim (R k e.0) as (λ o. AllByRecursion (λ x. P x.0) (match_ordering o ((k, v) ∷ e ∷ es) ((e.0, v) ∷ es) (e ∷ insert_entry R es k v))) [
      | Less ↦ (here, all)
      | Equal ↦ all
      | Greater ↦ (all.0, keys_insert P R k v es here all.1)
    ]

pub all_of_each : {X : Type 0} (P : X → Type 0) → ((x : X) → P x) → (xs : List X) → AllByRecursion P xs
all_of_each P so [] = tt
all_of_each P so (x ∷ xs) = (so x, all_of_each P so xs)

pub all_weaker : {X : Type 0} (P Q : X → Type 0) → ((x : X) → P x → Q x) → (xs : List X) → AllByRecursion P xs → AllByRecursion Q xs
all_weaker P Q so [] all = tt
all_weaker P Q so (x ∷ xs) all = (so x all.0, all_weaker P Q so xs all.1)

-- what was absent goes as it came
pub remove_inserted : {K X : Type 0} {R : K → K → Ordering} → IsTotalOrder R → (k : K) (v : X) (es : List (K × X)) → lookup (is_at (R k)) es ≡ None
    → remove_entry (is_at (R k)) (insert_entry R es k v) ≡ es
remove_inserted {K} {X} {R} o k v es absent = by_list es absent
  where
    itself : (fs : List (K × X)) → remove_entry (is_at (R k)) ((k, v) ∷ fs) ≡ fs
    itself fs = ap (λ r. cond (is_eq r) fs ((k, v) ∷ remove_entry (is_at (R k)) fs)) (tied_itself o k)

    by_list : (fs : List (K × X)) → lookup (is_at (R k)) fs ≡ None → remove_entry (is_at (R k)) (insert_entry R fs k v) ≡ fs
    by_list [] none = itself []
    by_list (f ∷ fs) none =
        elim (R k f.0) as (λ r. R k f.0 ≡ r → cond (is_eq r) (Some f.1) (lookup (is_at (R k)) fs) ≡ None
        → remove_entry (is_at (R k)) (match_ordering r ((k, v) ∷ f ∷ fs) ((f.0, v) ∷ fs) (f ∷ insert_entry R fs k v)) ≡ f ∷ fs) [
          | Less ↦ λ e rest. itself (f ∷ fs)
          | Equal ↦ λ e rest. cc
          | Greater ↦ λ e rest. ap (λ r. cond (is_eq r) (insert_entry R fs k v) (f ∷ remove_entry (is_at (R k)) (insert_entry R fs k v))) e ∙ ap (λ l. f ∷ l) (by_list fs rest)
        ] refl none

module _ {K X : Type 0} {R : K → K → Ordering} (o : IsTotalOrder R) where
  pub insert_put : (k : K) (v : X) (es : List (K × X)) → insert_entry R es k v ≡ put R k v es
  insert_put k v [] = refl
  insert_put k v (e ∷ es) =
      elim (R k e.0) as (λ r. match_ordering r ((k, v) ∷ e ∷ es) ((e.0, v) ∷ es) (e ∷ insert_entry R es k v) ≡ by_order r ((k, v) ∷ e ∷ es) ((e.0, v) ∷ es) (e ∷ put R k v es)) [
        | Less ↦ refl
        | Equal ↦ refl
        | Greater ↦ ap (λ l. e ∷ l) (insert_put k v es)
      ]

  pub lookup_find : (q : K) (es : List (K × X)) → lookup (is_at (R q)) es ≡ lookup_entry R q es
  lookup_find q [] = refl
  lookup_find q (e ∷ es) = ap (cond (eq_by_cmp R q e.0) (Some e.1)) (lookup_find q es)

  pub lookup_inserted : (q k : K) (v : X) (es : List (K × X)) → lookup (is_at (R q)) (insert_entry R es k v) ≡ cond (eq_by_cmp R q k) (Some v) (lookup (is_at (R q)) es)
  lookup_inserted q k v es =
      lookup_find q (insert_entry R es k v) ∙ ap (lookup_entry R q) (insert_put k v es) ∙ find-put R o q k v es ∙ ap (cond (eq_by_cmp R q k) (Some v)) (sym (lookup_find q es))

equal_of : (o : Ordering) → is_eq o ≡ true → o ≡ Equal
equal_of Less e = cc
equal_of Equal e = refl
equal_of Greater e = cc

less_not : (o : Ordering) → T (is_lt o) → is_eq o ≡ false
less_not Less h = refl
less_not Equal h = absurd h
less_not Greater h = absurd h

and_parts : (a b : Bool) → T (a && b) → T a × T b
and_parts true b h = (tt, h)
and_parts false b h = absurd h

module _ {K L X Y : Type 0} (S : L → L → Ordering) (total : IsTotalOrder S) (key : K → L) (value : X → Y) where
  -- keys above one that ties with q stay
  none_taken : (q x : L) → S q x ≡ Equal → (fs : List (L × Y)) → T (below_all S x fs) → where_key S (λ y. not (eq_by_cmp S q y)) fs ≡ fs
  none_taken q x tied [] below = refl
  none_taken q x tied (f ∷ fs) below =
      let parts = and_parts (is_lt (S x f.0)) (below_all S x fs) below in
      let kept : eq_by_cmp S q f.0 ≡ false = ap is_eq (total.congr q x f.0 tied) ∙ less_not (S x f.0) parts.0 in
      rw kept (ap (λ l. f ∷ l) (none_taken q x tied fs parts.1))

  pub remove_shown : (compare : K → Ordering) (q : L) (es : List (K × X)) → Agree {X = X} S key value compare q es → T (is_sorted S (map (shown S key value) es))
      → map (shown S key value) (remove_entry (is_at compare) es) ≡ where_key S (λ y. not (eq_by_cmp S q y)) (map (shown S key value) es)
  remove_shown compare q [] agree sorted = refl
  remove_shown compare q (e ∷ es) agree sorted =
      let parts = and_parts (below_all S (key e.0) (map (shown S key value) es)) (is_sorted S (map (shown S key value) es)) sorted in
      ap (λ o. map (shown S key value) (cond (is_eq o) es (e ∷ remove_entry (is_at compare) es))) agree.0
      ∙ elim (eq_by_cmp S q (key e.0)) as (λ b. eq_by_cmp S q (key e.0) ≡ b → map (shown S key value) (cond b es (e ∷ remove_entry (is_at compare) es))
      ≡ cond (not b) (shown S key value e ∷ where_key S (λ y. not (eq_by_cmp S q y)) (map (shown S key value) es)) (where_key S (λ y. not (eq_by_cmp S q y)) (map (shown S key value) es))) [
        | true ↦ λ is. sym (none_taken q (key e.0) (equal_of (S q (key e.0)) is) (map (shown S key value) es) parts.0)
        | false ↦ λ is. ap (λ l. shown S key value e ∷ l) (remove_shown compare q es agree.1 parts.1)
      ] refl

module _ {K L X Y : Type 0} (S : L → L → Ordering) (total : IsTotalOrder S) (key : K → L) (value : X → Y) where
  -- a key that stands among keys in order isn't below the first
  not_below : (q : L) (old : Y) (f : L × Y) (fs : List (L × Y)) → T (is_sorted S (f ∷ fs)) → S q f.0 ≡ Less → lookup_entry S q (f ∷ fs) ≡ Some old → ⊥
  not_below q old f fs sorted less found =
      let counted : length (by_order Less ((q, old) ∷ f ∷ fs) ((f.0, old) ∷ fs) (f ∷ put S q old fs)) ≡ length (f ∷ fs) =
      ap (λ r. length (by_order r ((q, old) ∷ f ∷ fs) ((f.0, old) ∷ fs) (f ∷ put S q old fs))) (sym less) ∙ length-put S total q old (f ∷ fs) sorted
      ∙ ap (λ o. cond (is_some o) (length (f ∷ fs)) (length (f ∷ fs) + 1)) found in
      absurd (omega arith)

  -- another value under a key that is there is that value put in
  pub set_put : (compare : K → Ordering) (q : L) (v : X) (old : Y) (es : List (K × X)) → Agree {X = X} S key value compare q es → T (is_sorted S (map (shown S key value) es)) → lookup_entry S q (map (shown S key value) es) ≡ Some old
      → map (shown S key value) (set_value (is_at compare) es v) ≡ put S q (value v) (map (shown S key value) es)
  set_put compare q v old [] agree sorted found = cc
  set_put compare q v old (e ∷ es) agree sorted found =
      let parts = and_parts (below_all S (key e.0) (map (shown S key value) es)) (is_sorted S (map (shown S key value) es)) sorted in
      ap (λ o. map (shown S key value) (cond (is_eq o) ((e.0, v) ∷ es) (e ∷ set_value (is_at compare) es v))) agree.0
      ∙ elim (S q (key e.0)) as (λ o. S q (key e.0) ≡ o → cond (is_eq o) (Some (value e.1)) (lookup_entry S q (map (shown S key value) es)) ≡ Some old
      → map (shown S key value) (cond (is_eq o) ((e.0, v) ∷ es) (e ∷ set_value (is_at compare) es v))
      ≡ by_order o ((q, value v) ∷ shown S key value e ∷ map (shown S key value) es) ((key e.0, value v) ∷ map (shown S key value) es) (shown S key value e ∷ put S q (value v) (map (shown S key value) es))) [
        | Less ↦ λ less here. absurd (not_below q old (shown S key value e) (map (shown S key value) es) sorted less found)
        | Equal ↦ λ equal here. refl
        | Greater ↦ λ greater here. ap (λ l. shown S key value e ∷ l) (set_put compare q v old es agree.1 parts.1 here)
      ] refl found

pub keys_set : {K X : Type 0} (P : K → Type 0) (test : K → Bool) (v : X) (es : List (K × X)) → AllByRecursion (λ e. P e.0) es → AllByRecursion (λ e. P e.0) (set_value test es v)
keys_set P test v [] all = tt
keys_set P test v (e ∷ es) all = elim (test e.0) as (λ b. AllByRecursion (λ x. P x.0) (cond b ((e.0, v) ∷ es) (e ∷ set_value test es v))) [ true ↦ all | false ↦ (all.0, keys_set P test v es all.1) ]

pub keys_remove : {K X : Type 0} (P : K → Type 0) (test : K → Bool) (es : List (K × X)) → AllByRecursion (λ e. P e.0) es → AllByRecursion (λ e. P e.0) (remove_entry test es)
keys_remove P test [] all = tt
keys_remove P test (e ∷ es) all = elim (test e.0) as (λ b. AllByRecursion (λ x. P x.0) (cond b es (e ∷ remove_entry test es))) [ true ↦ all.1 | false ↦ (all.0, keys_remove P test es all.1) ]

-- What the parts of a shrinker are after the steps of its calls.
use Rattle.std.proofs.Common.{◌≡◌, ℕ, ◌*◌, ◌<◌, ◌≤◌, ◌/◌, Bool, true, false, not, ◌||◌, List, [], ◌∷◌, length, Option, Some, None, IsSome, is_some, map, slice_index_or, refl, ap, sym, subst, ◌∙◌, arith, nat_eq}
use Rattle.std.specs.List.{filter, range_with_len, IsDistinct}
use Rattle.std.specs.Int.{div_ceil}
use Rattle.std.proofs.lemmas.List.Elements.{filter_agree}
use Rattle.std.proofs.lemmas.Map.Made.{is_some-lookup}
use Rattle.std.proofs.lemmas.Bool.{eq-eqb, ne_eqb, or_parts, not-true}
use Rattle.std.specs.Map.{keys_of, remove_entry, lookup}
use Rattle.std.specs.Option.{unwrap_or}
use Rattle.std.specs.Ordering.{nat_cmp}
use Rattle.std.specs.FinMap as map
use Rattle.std.specs.FinMap.{get-empty}
use Rattle.std.specs.Global.{Vec}
use Rattle.std.specs.Vec.{with_items}
use Rattle.std.proofs.lemmas.List.{with_items_is, length-set}
use Rattle.std.proofs.lemmas.Map.Entries.{length-keys_of}
use Rattle.lru.specs.LruCache.{LruCache, lru_cache, promoted, put_entries}
use Rattle.dc_names.specs.declared.limits.TheConstants.{MOST_COUNT}
use Rattle.dc_shrink.specs.Listings.{Listing, listing, added, dropped, pins_of, is_in, is_used, in_bucket, without, IsListing}
use Rattle.dc_shrink.specs.Orders.{promoted_in, IsKept, four_rows}
use Rattle.dc_shrink.proofs.Lists.{without_absent}
use Rattle.dc_shrink.proofs.Entries.{get_removed, keys-promoted, keys-put, keys-put_again, keys-remove_entry}
use Rattle.dc_shrink.proofs.Listed.{gone, listing_first, listing_dropped, listing_pinned, room, used_listed, not_listed}
use Rattle.dc_shrink.proofs.Orders.{orders_first, orders_dropped, orders_new}

-- the buckets after one row went first
pub buckets_promoted : (v : Vec (List ℕ)) (row : ℕ) (now ws : List (List ℕ)) → ws ≡ promoted_in now row → now ≡ v.items → (with_items v ws).items ≡ promoted_in v.items row
buckets_promoted v row now ws put is = let e : ws ≡ promoted_in v.items row = put ∙ ap (λ bs. promoted_in bs row) is in
    with_items_is v ws (ap length e ∙ length-set v.items (row / 4) _ ∙ sym v.ok.0) ∙ e

-- the list after a step of the cache `lru`
module _ {X : Type 0} (was now : LruCache ℕ X) {pins : map.FinMap nat_cmp ℕ} (is : IsListing (listing was.cap (keys_of was.entries) pins)) (row : ℕ) where
  pub after_promote : is_in (keys_of was.entries) row ≡ true → now ≡ lru_cache (promoted (nat_eq row) was.entries) was.cap → (now.cap ≡ was.cap) × (keys_of now.entries ≡ row ∷ without row (keys_of was.entries))
  after_promote here e = (ap (λ d. d.cap) e, ap (λ d. keys_of d.entries) e ∙ keys-promoted row was.entries is.distinct here)

  pub after_pop : now ≡ lru_cache (remove_entry (nat_eq row) was.entries) was.cap → (now.cap ≡ was.cap) × (keys_of now.entries ≡ without row (keys_of was.entries))
  after_pop e = (ap (λ d. d.cap) e, ap (λ d. keys_of d.entries) e ∙ keys-remove_entry row was.entries is.distinct)

  pub after_put : (x : X) → is_in (keys_of was.entries) row ≡ false → row < was.cap → now ≡ lru_cache (put_entries nat_eq was row x) was.cap → (now.cap ≡ was.cap) × (keys_of now.entries ≡ row ∷ keys_of was.entries)
  after_put x absent below e = let fits : length (keys_of was.entries) < was.cap = room is row absent below in
      (ap (λ d. d.cap) e, ap (λ d. keys_of d.entries) e ∙ keys-put was row x absent (omega (arith, length-keys_of was.entries)))

  -- with a row that may be there or not
  pub after_put_anew : (x : X) → row < was.cap → now ≡ lru_cache (put_entries nat_eq was row x) was.cap → (now.cap ≡ was.cap) × (keys_of now.entries ≡ row ∷ without row (keys_of was.entries))
  after_put_anew x below e = (elim (is_in (keys_of was.entries) row) as (λ b. is_in (keys_of was.entries) row ≡ b → (now.cap ≡ was.cap) × (keys_of now.entries ≡ row ∷ without row (keys_of was.entries))) [
    | true ↦ λ here. (ap (λ d. d.cap) e, ap (λ d. keys_of d.entries) e ∙ keys-put_again was row x is.distinct here)
    | false ↦ λ absent. let put = after_put x absent below e in (put.0, put.1 ∙ ap (λ l. row ∷ l) (sym (without_absent row (keys_of was.entries) absent)))
  ]) refl

-- what holds stays so
module _ {n : ℕ} {listed : List ℕ} {pins : map.FinMap nat_cmp ℕ} {buckets : List (List ℕ)} (kept : IsKept (listing n listed pins) buckets) (row : ℕ) where
  pub kept_first : map.get pins row ≡ None → row < n → IsKept (listing n (row ∷ without row listed) pins) (promoted_in buckets row)
  kept_first none below = (listing_first kept.0 row none below, orders_first kept.1 row)

  pub kept_touched : is_in listed row ≡ true → IsKept (listing n (row ∷ without row listed) pins) (promoted_in buckets row)
  kept_touched here = kept_first (kept.0.apart row here) (kept.0.within row (used_listed (listing n listed pins) row here))

  pub kept_added : (is_in listed row ≡ false) × (map.get pins row ≡ None) → row < n → IsKept (listing n (row ∷ listed) pins) (promoted_in buckets row)
  kept_added free below = subst (λ (l : List ℕ). IsKept (listing n (row ∷ l) pins) (promoted_in buckets row)) (without_absent row listed free.0) (kept_first free.1 below)

  pub kept_dropped : IsKept (listing n (without row listed) (map.remove pins row)) buckets
  kept_dropped = (listing_dropped kept.0 row, orders_dropped kept.1 row)

  pub kept_pinned : (v : ℕ) → row < n → 1 ≤ v → v ≤ MOST_COUNT → IsKept (listing n (without row listed) (map.insert pins row v)) buckets
  kept_pinned v below some most = (listing_pinned kept.0 row v below some most, orders_dropped kept.1 row)

  pub unused : not (is_used (listing n listed pins) row) ≡ true → (is_in listed row ≡ false) × (map.get pins row ≡ None)
  unused h = let two = or_parts (is_in listed row) (is_some (map.get pins row)) (not-true (is_used (listing n listed pins) row) h) in (two.0, none (map.get pins row) two.1)
    where
      none : (o : Option ℕ) → is_some o ≡ false → o ≡ None
      none None e = refl
      none (Some v) e = cc

-- a row that is not found is not listed
pub not_found : {X : Type 0} (row : ℕ) (es : List (ℕ × X)) → (IsSome (lookup (nat_eq row) es) → false ≡ true) → is_in (keys_of es) row ≡ false
not_found row es never = (elim (is_in (keys_of es) row) as (λ b. is_in (keys_of es) row ≡ b → b ≡ false) [
  | true ↦ λ here. sym (never (is_some-lookup (nat_eq row) es ∙ here))
  | false ↦ λ absent. refl
]) refl

-- a row that may have been in use or not: it goes first without a pin, or out of use
module _ {X : Type 0} (was now : LruCache ℕ X) {pins later : map.FinMap nat_cmp ℕ} {buckets : List (List ℕ)} (kept : IsKept (listing was.cap (keys_of was.entries) pins) buckets) (row : ℕ) (left : later ≡ map.remove pins row) where
  pub renewed : (x : X) → row < was.cap → now ≡ lru_cache (put_entries nat_eq was row x) was.cap → {bs : List (List ℕ)} → bs ≡ promoted_in buckets row
      → IsKept (listing now.cap (keys_of now.entries) later) bs × (listing now.cap (keys_of now.entries) later ≡ added (dropped (listing was.cap (keys_of was.entries) pins) row) row)
  renewed x below put moved = let e = after_put_anew was now kept.0 row x below put in
      rw (e.0, e.1, left, moved) (kept_added (kept_dropped kept row) row (gone row (keys_of was.entries), rw (get_removed pins row row, eq-eqb row row refl) refl) below, refl)

  pub unlisted : now ≡ was → (IsSome (lookup (nat_eq row) was.entries) → false ≡ true)
      → IsKept (listing now.cap (keys_of now.entries) later) buckets × (listing now.cap (keys_of now.entries) later ≡ dropped (listing was.cap (keys_of was.entries) pins) row)
  unlisted same never = let absent = without_absent row (keys_of was.entries) (not_found row was.entries never) in
      rw (same, left) (subst (λ l. IsKept (listing was.cap l (map.remove pins row)) buckets) absent (kept_dropped kept row), ap (λ l. listing was.cap l (map.remove pins row)) (sym absent))

-- nothing is in use
pub kept_new : (n : ℕ) → IsKept (listing n [] map.empty) (map four_rows (range_with_len 0 (div_ceil n 4)))
unfolding IsDistinct
kept_new n = (
  record {
    distinct = tt;
    apart = λ r h. get-empty nat_cmp r;
    pinned = λ r. rw (get-empty nat_cmp r) tt;
    within = λ r h. let h' = rw (get-empty nat_cmp r) at h in cc;
  },
  orders_new n,
)

none_in : (b : ℕ) (rows : List ℕ) → ((r : ℕ) → is_in rows r ≡ true → r < 4 * b) → filter (in_bucket b) rows ≡ []
none_in b [] h = refl
none_in b (x ∷ rows) h = let below : x < 4 * b = h x (rw (eq-eqb x x refl) refl) in
    rw (ne_eqb (x / 4) b (λ e. omega arith)) (none_in b rows (λ r t. h r (either r (nat_eq r x) t)))
  where
    either : (r : ℕ) (a : Bool) → is_in rows r ≡ true → (a || is_in rows r) ≡ true
    either r true t = refl
    either r false t = t

-- a bucket beyond the last has no row in use
pub none_beyond : {n : ℕ} {listed : List ℕ} {pins : map.FinMap nat_cmp ℕ} {buckets : List (List ℕ)} → IsKept (listing n listed pins) buckets → (b : ℕ) → length buckets ≤ b → filter (in_bucket b) listed ≡ []
none_beyond {n} {listed} {pins} kept b beyond = none_in b listed (λ r t. let below : r < n = kept.0.within r (used_listed (listing n listed pins) r t) in omega (arith, kept.1.enough))

-- the rows of a bucket that the cache `lru` has
pub seen_in_bucket : {X : Type 0} (es : List (ℕ × X)) {n : ℕ} {pins : map.FinMap nat_cmp ℕ} {buckets : List (List ℕ)} → IsKept (listing n (keys_of es) pins) buckets → (b : ℕ) → b < length buckets → filter (λ row. is_some (lookup (nat_eq row) es)) (slice_index_or buckets b []) ≡ filter (in_bucket b) (keys_of es)
seen_in_bucket es kept b below = filter_agree (λ row. is_some (lookup (nat_eq row) es)) (is_in (keys_of es)) (λ row. is_some-lookup (nat_eq row) es) _ ∙ (kept.1.each b below).as_listed

-- a row that has no pin, and one that has
pub pins_none : (pins : map.FinMap nat_cmp ℕ) (row : ℕ) → map.get pins row ≡ None → unwrap_or (map.get pins row) 0 ≡ 0
pins_none pins row e = rw e refl

pub pins_some : (o : Option ℕ) → 0 < unwrap_or o 0 → is_some o ≡ true
pins_some None h = absurd (omega arith)
pins_some (Some v) h = refl

-- a pinned row isn't in the list
pub dropped_pinned : (s : Listing) → IsListing s → (row : ℕ) → 0 < pins_of s row → dropped s row ≡ listing s.rows s.listed (map.remove s.pins row)
dropped_pinned s is row h = ap (λ l. listing s.rows l (map.remove s.pins row)) (without_absent row s.listed (not_listed is row (pins_some (map.get s.pins row) h)))

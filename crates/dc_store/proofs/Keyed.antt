-- Entries under their keys, found, put in and taken out by their spots.
use Rattle.std.proofs.Common.{◌≡◌, ℕ, ◌<◌, ◌^◌, List, Option, Some, None, map, option_map, IsSome, IsTrue, refl, ap, sym, ◌∙◌, subst}
use Rattle.std.specs.BTreeMap.{is_at, insert_entry}
use Rattle.std.specs.Cmp.Lexicographic.{slice_cmp}
use Rattle.std.specs.FinMap.Entries.{put, is_sorted, is_sorted-put, is_sorted-where_key}
use Rattle.std.specs.FinMap.Entries.{find as lookup_entry}
use Rattle.std.specs.Global.{Vec}
use Rattle.std.specs.List.{AllByRecursion}
use Rattle.std.specs.Map.{lookup, remove_entry, set_value}
use Rattle.std.specs.Ordering.{nat_cmp}
use Rattle.dc_plain.specs.Trees.{Spot, spot_cmp, without_spot}
use Rattle.dc_store.specs.Keys.{key_of, spot_in, entry_shown, IsKey, AreKept}
use Rattle.dc_store.proofs.Keys.{cmp-key, spot_in-key_of, key_of-IsKey}
use Rattle.dc_store.proofs.Maps.{Agree, all_weaker, lookup_shown, insert_shown, keys_insert, set_put, keys_set, remove_shown, keys_remove}
use Rattle.dc_store.proofs.Spots.{spots_total}
use Rattle.dc_store.proofs.Decides.{to_test, from_test, some_in}

module _ {entries : List (Vec ℕ × ℕ)} (kept : AreKept entries) (spot : Spot) (fits : spot.dir < 2 ^ 64) where
  agrees : (key : List ℕ) → key ≡ key_of spot → Agree {X = ℕ} spot_cmp (λ (k : Vec ℕ). spot_in k.items) (λ n. n) (λ k. slice_cmp nat_cmp key k.items) spot entries
  agrees key is = all_weaker (λ e. IsKey e.0.items) _ (λ e good. ap (λ (k : List ℕ). slice_cmp nat_cmp k e.0.items) is ∙ cmp-key spot e.0.items fits good) entries kept.keys

  same_option : (o : Option ℕ) → option_map (λ n. n) o ≡ o
  same_option None = refl
  same_option (Some n) = refl

  pub found_at : {key : List ℕ} → key ≡ key_of spot → lookup (is_at (λ (k : Vec ℕ). slice_cmp nat_cmp key k.items)) entries ≡ lookup_entry spot_cmp spot (map entry_shown entries)
  found_at {key = key} is = sym (same_option _) ∙ lookup_shown spot_cmp (λ (k : Vec ℕ). spot_in k.items) (λ n. n) (λ k. slice_cmp nat_cmp key k.items) spot entries (agrees key is)

  put_as : (key : Vec ℕ) (n : ℕ) → key.items ≡ key_of spot
      → map entry_shown (insert_entry (λ (a b : Vec ℕ). slice_cmp nat_cmp a.items b.items) entries key n) ≡ put spot_cmp spot n (map entry_shown entries)
  put_as key n is =
      let same : spot_in key.items ≡ spot = ap spot_in is ∙ spot_in-key_of spot fits in
      insert_shown spot_cmp (λ (k : Vec ℕ). spot_in k.items) (λ m. m) (λ (a b : Vec ℕ). slice_cmp nat_cmp a.items b.items) key n entries
      (subst (λ s. Agree {X = ℕ} spot_cmp (λ (k : Vec ℕ). spot_in k.items) (λ m. m) (λ k. slice_cmp nat_cmp key.items k.items) s entries) (sym same) (agrees key.items is))
      ∙ ap (λ s. put spot_cmp s n (map entry_shown entries)) same

  pub put_in : (key : Vec ℕ) (n : ℕ) {more : List (Vec ℕ × ℕ)} → key.items ≡ key_of spot → more ≡ insert_entry (λ (a b : Vec ℕ). slice_cmp nat_cmp a.items b.items) entries key n
      → AreKept more × (map entry_shown more ≡ put spot_cmp spot n (map entry_shown entries))
  put_in key n is entered =
      let shown = ap (map entry_shown) entered ∙ put_as key n is in (
        record {
          keys = subst (AllByRecursion (λ e. IsKey e.0.items)) (sym entered)
              (keys_insert (λ (k : Vec ℕ). IsKey k.items) (λ (a b : Vec ℕ). slice_cmp nat_cmp a.items b.items) key n entries (subst IsKey (sym is) (key_of-IsKey spot fits)) kept.keys);
          sorted = subst (λ es. IsTrue (is_sorted spot_cmp es)) (sym shown) (from_test _ (is_sorted-put spot_cmp spots_total spot n (map entry_shown entries) (to_test _ kept.sorted)));
        },
        shown,
      )

  -- an entry that is there leads elsewhere
  pub set_to : {key : List ℕ} (n : ℕ) {after : List (Vec ℕ × ℕ)} → key ≡ key_of spot → IsSome (lookup_entry spot_cmp spot (map entry_shown entries)) → after ≡ set_value (is_at (λ (k : Vec ℕ). slice_cmp nat_cmp key k.items)) entries n
      → AreKept after × (map entry_shown after ≡ put spot_cmp spot n (map entry_shown entries))
  set_to {key = key} n is there done =
      let (old, stood) = some_in (lookup_entry spot_cmp spot (map entry_shown entries)) there in
      let shown = ap (map entry_shown) done ∙ set_put spot_cmp spots_total (λ (k : Vec ℕ). spot_in k.items) (λ m. m) (λ k. slice_cmp nat_cmp key k.items) spot n old entries (agrees key is) (to_test _ kept.sorted) stood in (
        record {
          keys = subst (AllByRecursion (λ e. IsKey e.0.items)) (sym done) (keys_set (λ (k : Vec ℕ). IsKey k.items) (is_at (λ (k : Vec ℕ). slice_cmp nat_cmp key k.items)) n entries kept.keys);
          sorted = subst (λ es. IsTrue (is_sorted spot_cmp es)) (sym shown) (from_test _ (is_sorted-put spot_cmp spots_total spot n (map entry_shown entries) (to_test _ kept.sorted)));
        },
        shown,
      )

  pub taken_out : {key : List ℕ} {less : List (Vec ℕ × ℕ)} → key ≡ key_of spot → less ≡ remove_entry (is_at (λ (k : Vec ℕ). slice_cmp nat_cmp key k.items)) entries
      → AreKept less × (map entry_shown less ≡ without_spot spot (map entry_shown entries))
  taken_out {key = key} is taken =
      let shown = ap (map entry_shown) taken ∙ remove_shown spot_cmp spots_total (λ (k : Vec ℕ). spot_in k.items) (λ n. n) (λ k. slice_cmp nat_cmp key k.items) spot entries (agrees key is) (to_test _ kept.sorted) in (
        record {
          keys = subst (AllByRecursion (λ e. IsKey e.0.items)) (sym taken) (keys_remove (λ (k : Vec ℕ). IsKey k.items) (is_at (λ (k : Vec ℕ). slice_cmp nat_cmp key k.items)) entries kept.keys);
          sorted = subst (λ es. IsTrue (is_sorted spot_cmp es)) (sym shown) (from_test _ (is_sorted-where_key spot_cmp _ (map entry_shown entries) (to_test _ kept.sorted)));
        },
        shown,
      )

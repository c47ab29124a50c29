-- Inodes under their numbers, and their entries, as one of them changes.
use Rattle.std.proofs.Common.{◌≡◌, ℕ, List, [], Bool, true, false, not, cond, Option, Some, None, is_some, option_map, option_and_then, IsTrue, T, refl, ap, sym, ◌∙◌}
use Rattle.std.specs.Cmp.{nat_cmp_total}
use Rattle.std.specs.Cmp.Lexicographic.{nat_list_cmp_total}
use Rattle.std.specs.FinMap.Entries.{put, is_sorted, is_sorted-put, is_sorted-where_key, find-put}
use Rattle.std.specs.FinMap.Entries.{find as lookup}
use Rattle.std.specs.Ordering.{nat_cmp, eq_by_cmp, is_eq, ordering_then}
use Rattle.std.specs.declared.cmp.Ordering.{Ordering}
use Rattle.std.specs.declared.cmp.Ordering.TheVariants.{Less, Equal, Greater}
use Rattle.dc_plain.specs.Trees.{Spot, spot_cmp, without_spot}
use Rattle.dc_store.specs.Names.{name_cmp, without_name}
use Rattle.dc_store.specs.Inodes.{entries_of, inode_at, led_to, changed, with_name, less_name, without_inode}
use Rattle.dc_plain.specs.Spots.{spot_at}
use Rattle.dc_store.specs.declared.inode.Inode.{Inode}
use Rattle.dc_store.proofs.Entered.{sorted_entries, found_spot}
use Rattle.dc_store.proofs.Slots.{tied_ways, found_without}
use Rattle.dc_store.proofs.Spots.{spots_total, same_spots, lookup-take}
use Rattle.dc_store.proofs.Decides.{same_number}

module _ (n : ℕ) (f : Inode → Inode) (inodes : List (ℕ × Inode)) where
  pub found_changed : (q : ℕ) → inode_at (changed n f inodes) q ≡ cond (eq_by_cmp nat_cmp q n) (option_map f (inode_at inodes q)) (inode_at inodes q)
  found_changed q = by_inode (inode_at inodes n) refl
    where
      there : (b : Bool) → eq_by_cmp nat_cmp q n ≡ b → (o : Option Inode) → inode_at inodes n ≡ o → cond b (option_map f o) (inode_at inodes q) ≡ cond b (option_map f (inode_at inodes q)) (inode_at inodes q)
      there true same o e = ap (option_map f) (sym e ∙ ap (inode_at inodes) (sym (same_number q n same)))
      there false other o e = refl

      none : (b : Bool) → eq_by_cmp nat_cmp q n ≡ b → inode_at inodes n ≡ None → inode_at inodes q ≡ cond b (option_map f (inode_at inodes q)) (inode_at inodes q)
      none true same e = let nothing = ap (inode_at inodes) (same_number q n same) ∙ e in nothing ∙ ap (option_map f) (sym nothing)
      none false other e = refl

      by_inode : (o : Option Inode) → inode_at inodes n ≡ o → inode_at (elim o [ None ↦ inodes | Some inode ↦ put nat_cmp n (f inode) inodes ]) q ≡ cond (eq_by_cmp nat_cmp q n) (option_map f (inode_at inodes q)) (inode_at inodes q)
      by_inode None e = none (eq_by_cmp nat_cmp q n) refl e
      by_inode (Some inode) e = find-put nat_cmp nat_cmp_total q n (f inode) inodes ∙ there (eq_by_cmp nat_cmp q n) refl (Some inode) e

  pub sorted_changed : T (is_sorted nat_cmp inodes) → T (is_sorted nat_cmp (changed n f inodes))
  sorted_changed s = elim (inode_at inodes n) as (λ o. T (is_sorted nat_cmp (elim o [ None ↦ inodes | Some inode ↦ put nat_cmp n (f inode) inodes ]))) [
    | None ↦ s
    | Some inode ↦ is_sorted-put nat_cmp nat_cmp_total n (f inode) inodes s
  ]

  pub led_changed : (d : ℕ) (name : List ℕ) → led_to (changed n f inodes) d name
      ≡ cond (eq_by_cmp nat_cmp d n) (option_and_then (λ (inode : Inode). lookup name_cmp name (f inode).names) (inode_at inodes d)) (led_to inodes d name)
  led_changed d name =
      ap (option_and_then (λ (inode : Inode). lookup name_cmp name inode.names)) (found_changed d)
      ∙ split (eq_by_cmp nat_cmp d n) (inode_at inodes d)
    where
      split : (b : Bool) (o : Option Inode) → option_and_then (λ (inode : Inode). lookup name_cmp name inode.names) (cond b (option_map f o) o)
          ≡ cond b (option_and_then (λ (inode : Inode). lookup name_cmp name (f inode).names) o) (option_and_then (λ (inode : Inode). lookup name_cmp name inode.names) o)
      split true None = refl
      split true (Some inode) = refl
      split false o = refl

module _ (inodes : List (ℕ × Inode)) (sorted : T (is_sorted nat_cmp inodes)) where
  same_led : (others : List (ℕ × Inode)) → T (is_sorted nat_cmp others) → ((d : ℕ) (name : List ℕ) → led_to others d name ≡ led_to inodes d name) → entries_of others ≡ entries_of inodes
  same_led others s same =
      same_spots (entries_of others) (entries_of inodes) (sorted_entries others) (sorted_entries inodes)
      (λ q. found_spot others s q ∙ same q.dir q.name ∙ sym (found_spot inodes sorted q))

  -- the names in it stay
  pub entries_kept : (n : ℕ) (f : Inode → Inode) → ((inode : Inode) → (f inode).names ≡ inode.names) → entries_of (changed n f inodes) ≡ entries_of inodes
  entries_kept n f same = same_led (changed n f inodes) (sorted_changed n f inodes sorted) (λ d name. led_changed n f inodes d name ∙ still (eq_by_cmp nat_cmp d n) (inode_at inodes d) name)
    where
      still : (b : Bool) (o : Option Inode) (name : List ℕ) → cond b (option_and_then (λ (inode : Inode). lookup name_cmp name (f inode).names) o) (option_and_then (λ (inode : Inode). lookup name_cmp name inode.names) o)
          ≡ option_and_then (λ (inode : Inode). lookup name_cmp name inode.names) o
      still true None name = refl
      still true (Some inode) name = ap (lookup name_cmp name) (same inode)
      still false o name = refl

  -- it is new, and there is no name in it
  pub entries_new : (n : ℕ) (inode : Inode) → inode_at inodes n ≡ None → inode.names ≡ [] → entries_of (put nat_cmp n inode inodes) ≡ entries_of inodes
  entries_new n inode absent empty = same_led (put nat_cmp n inode inodes) (is_sorted-put nat_cmp nat_cmp_total n inode inodes sorted) (λ d name.
      ap (option_and_then (λ (i : Inode). lookup name_cmp name i.names)) (find-put nat_cmp nat_cmp_total d n inode inodes) ∙ at (eq_by_cmp nat_cmp d n) d name refl)
    where
      at : (b : Bool) (d : ℕ) (name : List ℕ) → eq_by_cmp nat_cmp d n ≡ b → option_and_then (λ (i : Inode). lookup name_cmp name i.names) (cond b (Some inode) (inode_at inodes d)) ≡ led_to inodes d name
      at true d name same = ap (lookup name_cmp name) empty ∙ sym (ap (option_and_then (λ (i : Inode). lookup name_cmp name i.names)) (ap (inode_at inodes) (same_number d n same) ∙ absent))
      at false d name other = refl

  -- it goes, and there was no name in it
  pub entries_gone : (n : ℕ) → ((name : List ℕ) → led_to inodes n name ≡ None) → entries_of (without_inode n inodes) ≡ entries_of inodes
  entries_gone n empty = same_led (without_inode n inodes) (is_sorted-where_key nat_cmp _ inodes sorted) (λ d name.
      ap (option_and_then (λ (i : Inode). lookup name_cmp name i.names)) (found_without n inodes d) ∙ at (eq_by_cmp nat_cmp d n) d name refl)
    where
      at : (b : Bool) (d : ℕ) (name : List ℕ) → eq_by_cmp nat_cmp d n ≡ b → option_and_then (λ (i : Inode). lookup name_cmp name i.names) (cond b None (inode_at inodes d)) ≡ led_to inodes d name
      at true d name same = sym (ap (λ k. led_to inodes k name) (same_number d n same) ∙ empty name)
      at false d name other = refl

  -- a name is put in
  pub entries_with : (d : ℕ) (name : List ℕ) (n : ℕ) → IsTrue (is_some (inode_at inodes d)) → entries_of (changed d (with_name name n) inodes) ≡ put spot_cmp (spot_at d name) n (entries_of inodes)
  entries_with d name n there = same_spots (entries_of (changed d (with_name name n) inodes)) (put spot_cmp (spot_at d name) n (entries_of inodes)) (sorted_entries (changed d (with_name name n) inodes))
      (is_sorted-put spot_cmp spots_total (spot_at d name) n (entries_of inodes) (sorted_entries inodes)) (λ q.
      found_spot (changed d (with_name name n) inodes) (sorted_changed d (with_name name n) inodes sorted) q ∙ led_changed d (with_name name n) inodes q.dir q.name
      ∙ at q (nat_cmp q.dir d) refl
      ∙ ap (cond (eq_by_cmp spot_cmp q (spot_at d name)) (Some n)) (sym (found_spot inodes sorted q)) ∙ sym (find-put spot_cmp spots_total q (spot_at d name) n (entries_of inodes)))
    where
      put_in : (q : Spot) (o : Option Inode) → IsTrue (is_some o) → option_and_then (λ (i : Inode). lookup name_cmp q.name (put name_cmp name n i.names)) o
          ≡ cond (eq_by_cmp name_cmp q.name name) (Some n) (option_and_then (λ (i : Inode). lookup name_cmp q.name i.names) o)
      put_in q None h = cc
      put_in q (Some i) h = find-put name_cmp nat_list_cmp_total q.name name n i.names

      at : (q : Spot) (o : Ordering) → nat_cmp q.dir d ≡ o → cond (is_eq o) (option_and_then (λ (i : Inode). lookup name_cmp q.name (put name_cmp name n i.names)) (inode_at inodes q.dir)) (led_to inodes q.dir q.name)
          ≡ cond (is_eq (ordering_then o (name_cmp q.name name))) (Some n) (led_to inodes q.dir q.name)
      at q Less e = refl
      at q Equal e = put_in q (inode_at inodes q.dir) (ap (λ k. is_some (inode_at inodes k)) (same_number q.dir d (ap is_eq e)) ∙ there)
      at q Greater e = refl

  -- a name is taken out
  pub entries_less : (d : ℕ) (name : List ℕ) → entries_of (changed d (less_name name) inodes) ≡ without_spot (spot_at d name) (entries_of inodes)
  entries_less d name = same_spots (entries_of (changed d (less_name name) inodes)) (without_spot (spot_at d name) (entries_of inodes)) (sorted_entries (changed d (less_name name) inodes))
      (is_sorted-where_key spot_cmp _ (entries_of inodes) (sorted_entries inodes)) (λ q.
      found_spot (changed d (less_name name) inodes) (sorted_changed d (less_name name) inodes sorted) q ∙ led_changed d (less_name name) inodes q.dir q.name
      ∙ ap (λ b. cond b (option_and_then (λ (i : Inode). lookup name_cmp q.name (without_name name i.names)) (inode_at inodes q.dir)) (led_to inodes q.dir q.name)) (tied_ways q.dir d)
      ∙ at q (nat_cmp d q.dir)
      ∙ ap (λ o. cond (not (eq_by_cmp spot_cmp (spot_at d name) q)) o None) (sym (found_spot inodes sorted q)) ∙ sym (lookup-take spot_cmp spots_total (spot_at d name) q (entries_of inodes)))
    where
      taken : (q : Spot) (o : Option Inode) → option_and_then (λ (i : Inode). lookup name_cmp q.name (without_name name i.names)) o
          ≡ cond (not (eq_by_cmp name_cmp name q.name)) (option_and_then (λ (i : Inode). lookup name_cmp q.name i.names) o) None
      taken q None = elim (not (eq_by_cmp name_cmp name q.name)) as (λ b. ◌≡◌ {A = Option ℕ} None (cond b None None)) [ true ↦ refl | false ↦ refl ]
      taken q (Some i) = lookup-take name_cmp nat_list_cmp_total name q.name i.names

      at : (q : Spot) (o : Ordering) → cond (is_eq o) (option_and_then (λ (i : Inode). lookup name_cmp q.name (without_name name i.names)) (inode_at inodes q.dir)) (led_to inodes q.dir q.name)
          ≡ cond (not (is_eq (ordering_then o (name_cmp name q.name)))) (led_to inodes q.dir q.name) None
      at q Less = refl
      at q Equal = taken q (inode_at inodes q.dir)
      at q Greater = refl

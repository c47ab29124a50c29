-- Which keys a moved entry touches.
use Rattle.std.proofs.Common.{◌≡◌, ◌≢◌, ◌⊎◌, inl, inr, ℕ, ◌+◌, ◌≤◌, ◌==◌, ◌&&◌, List, [], ◌∷◌, Bool, true, false, cond, not, Some, None, IsTrue, refl, ap, sym, ◌∙◌, arith, find, option_map, subst, if◌then◌else◌}
use Rattle.std.specs.Ordering.{eq_by_cmp}
use Rattle.std.specs.FinMap.Entries.{find-put}
use Rattle.std.specs.FinMap.Entries.{find as lookup}
use Rattle.dc_names.specs.declared.kind.Kind.TheVariants.{Dir}
use Rattle.dc_plain.specs.Facts.{Label}
use Rattle.dc_plain.specs.Facts.Label.{Entry, Parent, Text}
use Rattle.dc_plain.specs.Trees.{Tree, Spot, Inode, spot_cmp, how_many, inode_of, entry_number, entry_of, fact_at, kind_of, holder_of, names_of, is_live_directory, without_spot}
use Rattle.dc_plain.specs.TouchedKeys.{entry_key, keys_moved}
use Rattle.dc_plain.proofs.Made.{spots_total}
use Rattle.dc_plain.proofs.Takes.{lookup-take}
use Rattle.dc_plain.proofs.Holders.{holder-live, same_test, decided, decided_not}
use Rattle.dc_plain.proofs.Moved.{IsReady, moved_to, holder_else, holder_moved, single}
use Rattle.dc_plain.proofs.SameFacts.{IsAmong, KeepsOthers, decide, same_spot, same_key, entry-same, parent-same, no_parent, parent-fact, entry-fact, no_entry, tied}

pub some_counted : (spot : Spot) (n : ℕ) (es : List (Spot × ℕ)) → lookup spot_cmp spot es ≡ Some n → 1 ≤ how_many (λ (e : Spot × ℕ). e.1 == n) es
some_counted spot n [] found = cc
some_counted spot n (x ∷ xs) found =
    elim (eq_by_cmp spot_cmp spot x.0) as (λ b. cond b (Some x.1) (lookup spot_cmp spot xs) ≡ Some n → 1 ≤ how_many (λ (e : Spot × ℕ). e.1 == n) (x ∷ xs)) [
      | true ↦ λ is. let same : x.1 ≡ n = cc in rw same (rw (same_test n) (omega arith))
      | false ↦ λ is. let rest = some_counted spot n xs is in omega arith
    ] found

-- the one entry that leads to n is that of the spot
only_holder : (spot : Spot) (n : ℕ) (es : List (Spot × ℕ)) → lookup spot_cmp spot es ≡ Some n → how_many (λ (e : Spot × ℕ). e.1 == n) es ≡ 1
    → option_map (λ (e : Spot × ℕ). e.0.dir) (find (λ (e : Spot × ℕ). e.1 == n) es) ≡ Some spot.dir
only_holder spot n [] found one = cc
only_holder spot n (x ∷ xs) found one =
    elim (eq_by_cmp spot_cmp spot x.0) as (λ b. eq_by_cmp spot_cmp spot x.0 ≡ b → cond b (Some x.1) (lookup spot_cmp spot xs) ≡ Some n
    → option_map (λ (e : Spot × ℕ). e.0.dir) (cond (x.1 == n) (Some x) (find (λ (e : Spot × ℕ). e.1 == n) xs)) ≡ Some spot.dir) [
      | true ↦ λ is here.
          let same : x.1 ≡ n = cc in
          let passes : (x.1 == n) ≡ true = rw same (same_test n) in
          rw passes (ap (λ (s : Spot). Some s.dir) (sym (same_spot spot x.0 is)))
      | false ↦ λ is here.
          let some = some_counted spot n xs here in
          elim (x.1 == n) as (λ b. cond b 1 0 + how_many (λ (e : Spot × ℕ). e.1 == n) xs ≡ 1 → option_map (λ (e : Spot × ℕ). e.0.dir) (cond b (Some x) (find (λ (e : Spot × ℕ). e.1 == n) xs)) ≡ Some spot.dir) [
            | true ↦ λ two. absurd (omega arith)
            | false ↦ λ same. only_holder spot n xs here (omega arith)
          ] one
    ] refl found

pub holder_is : (t : Tree) (d : ℕ) (name : List ℕ) (n : ℕ) → entry_number t (record { dir = d; name = name }) ≡ Some n → names_of t n ≡ 1 → holder_of t n ≡ Some d
holder_is t d name n leads one = only_holder (record { dir = d; name = name }) n t.entries leads one

module _ (t : Tree) (from : ℕ) (old : List ℕ) (to : ℕ) (new : List ℕ) (n : ℕ) (inode : Inode) (ready : IsReady t from old to new n) (lives : inode_of t n ≡ Some inode) (other_root : n ≢ 1) where
  target_moved : (q : ℕ) (other : List ℕ) → entry_number (moved_to t from old to new n) (record { dir = q; name = other })
      ≡ cond (eq_by_cmp spot_cmp (record { dir = q; name = other }) (record { dir = to; name = new })) (Some n)
      (cond (not (eq_by_cmp spot_cmp (record { dir = from; name = old }) (record { dir = q; name = other }))) (entry_number t (record { dir = q; name = other })) None)
  target_moved q other =
      find-put spot_cmp spots_total (record { dir = q; name = other }) (record { dir = to; name = new }) n (without_spot (record { dir = from; name = old }) t.entries)
      ∙ ap (λ o. cond (eq_by_cmp spot_cmp (record { dir = q; name = other }) (record { dir = to; name = new })) (Some n) o)
      (lookup-take spot_cmp spots_total (record { dir = from; name = old }) (record { dir = q; name = other }) t.entries)

  -- the two names are apart
  names_apart : eq_by_cmp spot_cmp (record { dir = from; name = old }) (record { dir = to; name = new }) ≡ false
  names_apart = elim (decide (eq_by_cmp spot_cmp (record { dir = from; name = old }) (record { dir = to; name = new }))) [
    | inr e ↦ e
    | inl e ↦
        let both : Some n ≡ None = sym ready.source ∙ ap (entry_number t) (same_spot (record { dir = from; name = old }) (record { dir = to; name = new }) e) ∙ ready.free in
        absurd cc
  ]

  pub old_after : entry_of (moved_to t from old to new n) from (Entry old) ≡ None
  old_after = no_entry (moved_to t from old to new n) from old (target_moved from old ∙ rw (names_apart, tied from old) refl)

  pub new_after : entry_of (moved_to t from old to new n) to (Entry new) ≡ Some (n, kind_of inode)
  new_after = entry-fact (moved_to t from old to new n) to new n inode (target_moved to new ∙ rw (tied to new) refl) lives

  pub parent_after : IsTrue (is_live_directory t n) → entry_of (moved_to t from old to new n) n Parent ≡ Some (to, Dir)
  parent_after live = parent-fact (moved_to t from old to new n) n to ready.held live other_root (holder_moved t from old to new n ready (single t from old to new n ready n live other_root))

  pub parent_before : IsTrue (is_live_directory t n) → entry_of t n Parent ≡ Some (from, Dir)
  parent_before live =
      let held = holder_is t from old n ready.source (single t from old to new n ready n live other_root) in
      parent-fact t n from (holder-live t ready.well n from held) live other_root held

  own_parent : (b : Bool) → is_live_directory t n ≡ b → (c : Bool) → (from == to) ≡ c
      → IsAmong (record { number = n; label = Parent }) (if b && not c then record { number = n; label = Parent } ∷ [] else []) ⊎ (entry_of (moved_to t from old to new n) n Parent ≡ entry_of t n Parent)
  own_parent false live c e = inr (no_parent (moved_to t from old to new n) n live ∙ sym (no_parent t n live))
  own_parent true live false e = inl (inl refl)
  own_parent true live true e = inr (parent_after live ∙ ap (λ (k : ℕ). Some (k, Dir)) (sym (decided from to e)) ∙ sym (parent_before live))

  pub moved-others : KeepsOthers t (moved_to t from old to new n) (entry_key from old ∷ entry_key to new ∷ keys_moved t from to n)
  moved-others key = by_label key.label key.number
    where
      by_label : (label : Label) (q : ℕ) → IsAmong (record { number = q; label = label }) (entry_key from old ∷ entry_key to new ∷ keys_moved t from to n)
          ⊎ (fact_at (moved_to t from old to new n) (record { number = q; label = label }) ≡ fact_at t (record { number = q; label = label }))
      by_label (Entry other) q = elim (decide (eq_by_cmp spot_cmp (record { dir = from; name = old }) (record { dir = q; name = other }))) [
        | inl e ↦ inl (inl (sym (same_key q from other old e)))
        | inr e ↦ elim (decide (eq_by_cmp spot_cmp (record { dir = q; name = other }) (record { dir = to; name = new }))) [
          | inl e' ↦ inl (inr (inl (same_key to q new other e')))
          | inr e' ↦ inr (ap (λ f. (f, None)) (entry-same t (moved_to t from old to new n) q other (target_moved q other ∙ rw (e', e) refl) (λ k is. refl)))
        ]
      ]
      by_label Parent q = elim (decide (n == q)) [
        | inl e ↦ subst (λ (k : ℕ). IsAmong (record { number = k; label = Parent }) (entry_key from old ∷ entry_key to new ∷ keys_moved t from to n)
            ⊎ (fact_at (moved_to t from old to new n) (record { number = k; label = Parent }) ≡ fact_at t (record { number = k; label = Parent }))) (decided n q e)
            (elim (own_parent (is_live_directory t n) refl (from == to) refl) [ inl among ↦ inl (inr (inr among)) | inr same ↦ inr (ap (λ f. (f, None)) same) ])
        | inr e ↦ inr (ap (λ f. (f, None)) (parent-same t (moved_to t from old to new n) q refl (λ live. holder_else t from old to new n ready q (decided_not n q e)) (λ up is. refl)))
      ]
      by_label Text q = inr refl

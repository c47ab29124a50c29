-- A further name touches its own key alone.
use Rattle.std.proofs.Common.{◌≡◌, ◌⊎◌, inl, inr, ℕ, List, [], ◌∷◌, false, cond, Some, None, IsTrue, refl, ap, ◌∙◌}
use Rattle.std.specs.Ordering.{eq_by_cmp}
use Rattle.std.specs.FinMap.Entries.{find-put}
use Rattle.dc_plain.specs.Facts.{Label}
use Rattle.dc_plain.specs.Facts.Label.{Entry, Parent, Text}
use Rattle.dc_plain.specs.Trees.{Tree, Inode, spot_cmp, inode_of, entry_number, fact_at, kind_of, is_live_directory, is_directory_inode}
use Rattle.dc_plain.specs.Effects.{with_entry_for}
use Rattle.dc_plain.specs.TouchedKeys.{entry_key}
use Rattle.dc_plain.specs.IsWellFormed.{IsWellFormed}
use Rattle.dc_plain.proofs.Made.{spots_total}
use Rattle.dc_plain.proofs.Linked.{holder_linked}
use Rattle.dc_plain.proofs.SameFacts.{IsAmong, KeepsOthers, AltersEach, decide, same_key, entry-same, parent-same, entry-fact, no_entry, tied, entries-differ}

module _ (t : Tree) (d : ℕ) (name : List ℕ) (n : ℕ) (inode : Inode) (well : IsWellFormed t) (in_directory : IsTrue (is_live_directory t d))
    (free : entry_number t (record { dir = d; name = name }) ≡ None) (lives : inode_of t n ≡ Some inode) (no_directory : is_directory_inode (Some inode) ≡ false) where
  linked_target : (q : ℕ) (other : List ℕ) → entry_number (with_entry_for t d name n) (record { dir = q; name = other })
      ≡ cond (eq_by_cmp spot_cmp (record { dir = q; name = other }) (record { dir = d; name = name })) (Some n) (entry_number t (record { dir = q; name = other }))
  linked_target q other = find-put spot_cmp spots_total (record { dir = q; name = other }) (record { dir = d; name = name }) n t.entries

  pub linked-others : KeepsOthers t (with_entry_for t d name n) (entry_key d name ∷ [])
  linked-others key = by_label key.label key.number
    where
      by_label : (label : Label) (q : ℕ) → IsAmong (record { number = q; label = label }) (entry_key d name ∷ [])
          ⊎ (fact_at (with_entry_for t d name n) (record { number = q; label = label }) ≡ fact_at t (record { number = q; label = label }))
      by_label (Entry other) q = elim (decide (eq_by_cmp spot_cmp (record { dir = q; name = other }) (record { dir = d; name = name }))) [
        | inl e ↦ inl (inl (same_key d q name other e))
        | inr e ↦ inr (ap (λ f. (f, None)) (entry-same t (with_entry_for t d name n) q other (linked_target q other ∙ rw e refl) (λ k is. refl)))
      ]
      by_label Parent q = inr (ap (λ f. (f, None)) (parent-same t (with_entry_for t d name n) q refl (holder_linked t d name n inode well in_directory free lives no_directory q) (λ up is. refl)))
      by_label Text q = inr refl

  pub linked-each : AltersEach t (with_entry_for t d name n) (entry_key d name ∷ [])
  linked-each key (inr never) = absurd never
  linked-each key (inl is) = entries-differ t (with_entry_for t d name n) key d (Entry name) None (Some (n, kind_of inode)) is (ap (λ f. (f, None)) (no_entry t d name free))
      (ap (λ f. (f, None)) (entry-fact (with_entry_for t d name n) d name n inode (linked_target d name ∙ rw (tied d name) refl) lives)) (λ e. cc)

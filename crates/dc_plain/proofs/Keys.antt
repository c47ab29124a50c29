-- Which keys a new inode touches.
use Rattle.std.proofs.Common.{◌≡◌, ◌≢◌, ◌⊎◌, inl, inr, ℕ, ◌==◌, List, ◌∷◌, true, false, cond, Option, Some, None, is_some, IsTrue, refl, ap, sym, ◌∙◌, option_and_then, subst}
use Rattle.std.specs.Ordering.{eq_by_cmp}
use Rattle.std.specs.FinMap.Entries.{find-put}
use Rattle.dc_names.specs.declared.kind.Kind.TheVariants.{Dir}
use Rattle.dc_plain.specs.Facts.{Label}
use Rattle.dc_plain.specs.Facts.Label.{Entry, Parent, Text}
use Rattle.dc_plain.specs.Trees.{Tree, Spot, Inode, spot_cmp, inode_of, entry_number, target_at, entry_of, text_of, text_in, fact_at, kind_of, is_live_directory, is_directory_inode}
use Rattle.dc_plain.specs.Trees.Inode.{Directory, Regular, Symbolic}
use Rattle.dc_plain.specs.Effects.{with_new}
use Rattle.dc_plain.specs.TouchedKeys.{entry_key, own_keys}
use Rattle.dc_plain.specs.IsWellFormed.{IsWellFormed, Stands}
use Rattle.dc_plain.proofs.Made.{spots_total, other_number, inode_new, apart, holder_kept, holder_new, unused, made, some_in, All-lookup, is_directory_in, kept}
use Rattle.dc_plain.proofs.Puts.{All-weaker}
use Rattle.dc_plain.proofs.Holders.{holder-live, decided, decided_not}
use Rattle.dc_plain.proofs.SameFacts.{IsAmong, KeepsOthers, AltersEach, decide, same_key, target-same, text-same, entry-same, parent-same, no_parent, parent-fact, entry-fact, no_entry, tied, entries-differ, texts-differ}

pub lives_if : (o : Option Inode) → is_directory_inode o ≡ true → is_some o ≡ true
lives_if None e = cc
lives_if (Some i) e = refl

-- what a name leads to lives
pub target_lives : (t : Tree) → IsWellFormed t → (spot : Spot) (n : ℕ) → entry_number t spot ≡ Some n → IsTrue (is_some (inode_of t n))
target_lives t well spot n e = All-lookup spot_cmp (λ k. IsTrue (is_some (inode_of t k))) spot t.entries (All-weaker (Stands t) (λ s. IsTrue (is_some (inode_of t s.1))) (λ x s. s.leads) t.entries well.entries) n e

module _ (t : Tree) (d : ℕ) (name : List ℕ) (inode : Inode) (well : IsWellFormed t) (in_directory : IsTrue (is_live_directory t d))
    (free : entry_number t (record { dir = d; name = name }) ≡ None) where
  -- what isn't the new number is as it was
  inode_else : (n : ℕ) → n ≢ t.next → inode_of (with_new t d name inode) n ≡ inode_of t n
  inode_else n other = inode_new t d name inode well in_directory free n ∙ ap (λ b. cond b (Some inode) (inode_of t n)) (other_number n t.next other)

  place_else : (n : ℕ) → IsTrue (is_some (inode_of t n)) → target_at (with_new t d name inode) n ≡ target_at t n
  place_else n live =
      let i = some_in (inode_of t n) live in
      target-same t (with_new t d name inode) n (inode_else n (apart t d name inode well in_directory free n i.0 i.1))

  -- another name leads where it led
  entry_else : (n : ℕ) (other : List ℕ) → eq_by_cmp spot_cmp (record { dir = n; name = other }) (record { dir = d; name = name }) ≡ false
      → entry_of (with_new t d name inode) n (Entry other) ≡ entry_of t n (Entry other)
  entry_else n other apart_from =
      let found = find-put spot_cmp spots_total (record { dir = n; name = other }) (record { dir = d; name = name }) t.next t.entries in
      entry-same t (with_new t d name inode) n other (found ∙ ap (λ b. cond b (Some t.next) (entry_number t (record { dir = n; name = other }))) apart_from)
      (λ k e. place_else k (target_lives t well (record { dir = n; name = other }) k e))

  -- so does another dot-dot
  parent_else : (n : ℕ) → n ≢ t.next → entry_of (with_new t d name inode) n Parent ≡ entry_of t n Parent
  parent_else n other = parent-same t (with_new t d name inode) n (inode_else n other) (λ live. holder_kept t d name inode well in_directory free n other)
      (λ up e. place_else up (lives_if (inode_of t up) (holder-live t well n up e)))

  no_fact_before : entry_of t t.next Parent ≡ None
  no_fact_before = no_parent t t.next (ap is_directory_inode (unused t d name inode well in_directory free))

  no_text_before : text_of t t.next ≡ None
  no_text_before = ap (option_and_then text_in) (unused t d name inode well in_directory free)

  new_parent : (i : Inode) → inode ≡ i → IsAmong (record { number = t.next; label = Parent }) (own_keys t.next (kind_of i)) ⊎ (entry_of (with_new t d name inode) t.next Parent ≡ None)
  new_parent Directory is = inl (inl refl)
  new_parent Regular is = inr (no_parent (with_new t d name inode) t.next (ap is_directory_inode (made t d name inode well in_directory free ∙ ap Some is)))
  new_parent (Symbolic text) is = inr (no_parent (with_new t d name inode) t.next (ap is_directory_inode (made t d name inode well in_directory free ∙ ap Some is)))

  new_text : (i : Inode) → inode ≡ i → IsAmong (record { number = t.next; label = Text }) (own_keys t.next (kind_of i)) ⊎ (text_of (with_new t d name inode) t.next ≡ None)
  new_text Directory is = inr (ap (option_and_then text_in) (made t d name inode well in_directory free ∙ ap Some is))
  new_text Regular is = inr (ap (option_and_then text_in) (made t d name inode well in_directory free ∙ ap Some is))
  new_text (Symbolic text) is = inl (inl refl)

  -- only the name, and the new directory's dot-dot or the new link's text are touched
  pub made-others : KeepsOthers t (with_new t d name inode) (entry_key d name ∷ own_keys t.next (kind_of inode))
  made-others key = by_label key.label key.number
    where
      by_label : (label : Label) (n : ℕ) → IsAmong (record { number = n; label = label }) (entry_key d name ∷ own_keys t.next (kind_of inode))
          ⊎ (fact_at (with_new t d name inode) (record { number = n; label = label }) ≡ fact_at t (record { number = n; label = label }))
      by_label (Entry other) n = elim (decide (eq_by_cmp spot_cmp (record { dir = n; name = other }) (record { dir = d; name = name }))) [
        | inl e ↦ inl (inl (same_key d n name other e))
        | inr e ↦ inr (ap (λ f. (f, None)) (entry_else n other e))
      ]
      by_label Parent n = elim (decide (n == t.next)) [
        | inl e ↦ subst (λ (k : ℕ). IsAmong (record { number = k; label = Parent }) (entry_key d name ∷ own_keys t.next (kind_of inode))
            ⊎ (fact_at (with_new t d name inode) (record { number = k; label = Parent }) ≡ fact_at t (record { number = k; label = Parent }))) (sym (decided n t.next e))
            (elim (new_parent inode refl) [ inl among ↦ inl (inr among) | inr none ↦ inr (ap (λ f. (f, None)) (none ∙ sym no_fact_before)) ])
        | inr e ↦ inr (ap (λ f. (f, None)) (parent_else n (decided_not n t.next e)))
      ]
      by_label Text n = elim (decide (n == t.next)) [
        | inl e ↦ subst (λ (k : ℕ). IsAmong (record { number = k; label = Text }) (entry_key d name ∷ own_keys t.next (kind_of inode))
            ⊎ (fact_at (with_new t d name inode) (record { number = k; label = Text }) ≡ fact_at t (record { number = k; label = Text }))) (sym (decided n t.next e))
            (elim (new_text inode refl) [ inl among ↦ inl (inr among) | inr none ↦ inr (ap (λ f. (None, f)) (none ∙ sym no_text_before)) ])
        | inr e ↦ inr (ap (λ f. (None, f)) (text-same t (with_new t d name inode) n (inode_else n (decided_not n t.next e))))
      ]

  entry_after : entry_of (with_new t d name inode) d (Entry name) ≡ Some (t.next, kind_of inode)
  entry_after = entry-fact (with_new t d name inode) d name t.next inode
      (find-put spot_cmp spots_total (record { dir = d; name = name }) (record { dir = d; name = name }) t.next t.entries ∙ rw (tied d name) refl) (made t d name inode well in_directory free)

  parent_after : inode ≡ Directory → entry_of (with_new t d name inode) t.next Parent ≡ Some (d, Dir)
  parent_after is = parent-fact (with_new t d name inode) t.next d
      (ap is_directory_inode (kept t d name inode well in_directory free d Directory (is_directory_in (inode_of t d) in_directory)))
      (ap is_directory_inode (made t d name inode well in_directory free ∙ ap Some is)) (λ one. apart t d name inode well in_directory free 1 Directory well.root_is (sym one)) (holder_new t d name inode well in_directory free)

  -- and these are
  pub made-each : AltersEach t (with_new t d name inode) (entry_key d name ∷ own_keys t.next (kind_of inode))
  made-each key (inl is) = entries-differ t (with_new t d name inode) key d (Entry name) None (Some (t.next, kind_of inode)) is (ap (λ f. (f, None)) (no_entry t d name free)) (ap (λ f. (f, None)) entry_after) (λ e. cc)
  made-each key (inr own) = by_inode inode refl own
    where
      by_inode : (i : Inode) → inode ≡ i → IsAmong key (own_keys t.next (kind_of i)) → fact_at (with_new t d name inode) key ≢ fact_at t key
      by_inode Directory is (inl at) = entries-differ t (with_new t d name inode) key t.next Parent None (Some (d, Dir)) at (ap (λ f. (f, None)) no_fact_before) (ap (λ f. (f, None)) (parent_after is)) (λ e. cc)
      by_inode Directory is (inr never) = absurd never
      by_inode Regular is never = absurd never
      by_inode (Symbolic text) is (inl at) = texts-differ t (with_new t d name inode) key t.next None (Some text) at no_text_before (ap (option_and_then text_in) (made t d name inode well in_directory free ∙ ap Some is)) (λ e. cc)
      by_inode (Symbolic text) is (inr never) = absurd never

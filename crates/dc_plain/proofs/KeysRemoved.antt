-- Which keys a name that goes touches.
use Rattle.std.proofs.Common.{◌≡◌, ◌≢◌, ◌⊎◌, inl, inr, ℕ, ◌+◌, ◌==◌, List, [], ◌∷◌, Bool, true, false, cond, not, Option, Some, None, is_some, IsTrue, refl, ap, sym, ◌∙◌, arith, option_and_then, subst, if◌then◌else◌}
use Rattle.std.proofs.lemmas.Bool.Decides.{nat_tests}
use Rattle.std.specs.Ordering.{eq_by_cmp}
use Rattle.dc_names.specs.declared.kind.Kind.TheVariants.{Dir}
use Rattle.dc_plain.specs.Facts.{Key, Label}
use Rattle.dc_plain.specs.Facts.Label.{Entry, Parent, Text}
use Rattle.dc_plain.specs.Trees.{Tree, Inode, spot_cmp, inode_of, entry_number, target_at, entry_of, text_of, text_in, fact_at, kind_of, holder_of, names_of, is_live_directory, is_directory_inode, without_number}
use Rattle.dc_plain.specs.Trees.Inode.{Directory, Regular, Symbolic}
use Rattle.dc_plain.specs.Effects.{without_entry}
use Rattle.dc_plain.specs.TouchedKeys.{entry_key, own_keys, keys_at, keys_gone}
use Rattle.dc_plain.specs.IsWellFormed.{IsWellFormed}
use Rattle.dc_plain.proofs.Made.{spots_total, some_in}
use Rattle.dc_plain.proofs.Takes.{lookup-take}
use Rattle.dc_plain.proofs.Holders.{holder-live, same_test, decided, decided_not}
use Rattle.dc_plain.proofs.Moved.{held_by}
use Rattle.dc_plain.proofs.Removed.{IsUnentered, left_of, without_entry-IsWellFormed, inode_without, one_less, not_root, not_holder, holder_left, either_left, inode-left}
use Rattle.dc_plain.proofs.Keys.{target_lives}
use Rattle.dc_plain.proofs.SameFacts.{IsAmong, KeepsOthers, AltersEach, decide, same_key, target-same, text-same, entry-same, parent-same, no_parent, parent-fact, entry-fact, no_entry, tied, entries-differ, texts-differ}

-- with its last name an inode goes, and else it stays
pub inode-after : (t : Tree) (d : ℕ) (name : List ℕ) (n : ℕ) → IsWellFormed t → entry_number t (record { dir = d; name = name }) ≡ Some n → IsUnentered t n → (q : ℕ)
    → inode_of (without_entry t d name n) q ≡ cond (names_of t n == 1) (cond (n == q) None (inode_of t q)) (inode_of t q)
inode-after t d name n well leads unentered q =
    let less = one_less t d name n well leads unentered t.inodes in
    let same : (names_of (left_of t d name t.inodes) n == 0) ≡ (names_of t n == 1) = by_one (names_of (left_of t d name t.inodes) n) (names_of t n) less in
    elim (names_of (left_of t d name t.inodes) n == 0) as (λ b. inode_of (if b then left_of t d name (without_number n t.inodes) else left_of t d name t.inodes) q ≡ cond b (cond (n == q) None (inode_of t q)) (inode_of t q)) [
      | true ↦ inode_without n q t.inodes
      | false ↦ refl
    ] ∙ ap (λ b. cond b (cond (n == q) None (inode_of t q)) (inode_of t q)) same
  where
    by_one : (a b : ℕ) → a + 1 ≡ b → (a == 0) ≡ (b == 1)
    by_one a b e = grind (arith, nat_tests)

fewer : (b c : Bool) (o : Option Inode) (i : Inode) → cond b (cond c None o) o ≡ Some i → o ≡ Some i
fewer true true o i e = cc
fewer true false o i e = e
fewer false c o i e = e

module _ (t : Tree) (d : ℕ) (name : List ℕ) (n : ℕ) (inode : Inode) (well : IsWellFormed t) (leads : entry_number t (record { dir = d; name = name }) ≡ Some n) (unentered : IsUnentered t n) (lives : inode_of t n ≡ Some inode) where
  target_left : (q : ℕ) (other : List ℕ) → entry_number (without_entry t d name n) (record { dir = q; name = other })
      ≡ cond (not (eq_by_cmp spot_cmp (record { dir = d; name = name }) (record { dir = q; name = other }))) (entry_number t (record { dir = q; name = other })) None
  target_left q other =
      let taken = lookup-take spot_cmp spots_total (record { dir = d; name = name }) (record { dir = q; name = other }) t.entries in
      either_left (λ u. entry_number u (record { dir = q; name = other }) ≡ cond (not (eq_by_cmp spot_cmp (record { dir = d; name = name }) (record { dir = q; name = other }))) (entry_number t (record { dir = q; name = other })) None) t d name n taken taken

  holder_kept : (q : ℕ) → n ≢ q → holder_of (without_entry t d name n) q ≡ holder_of t q
  holder_kept q other = either_left (λ u. holder_of u q ≡ holder_of t q) t d name n (holder_left t d name n well leads unentered (without_number n t.inodes) q other) (holder_left t d name n well leads unentered t.inodes q other)

  -- what lives afterwards was so before
  place_kept : (k : ℕ) → IsTrue (is_some (inode_of (without_entry t d name n) k)) → target_at (without_entry t d name n) k ≡ target_at t k
  place_kept k live =
      let i = some_in (inode_of (without_entry t d name n) k) live in
      target-same t (without_entry t d name n) k (i.1 ∙ sym (fewer (names_of t n == 1) (n == k) (inode_of t k) i.0 (sym (inode-after t d name n well leads unentered k) ∙ i.1)))

  entry_kept : (q : ℕ) (other : List ℕ) → eq_by_cmp spot_cmp (record { dir = d; name = name }) (record { dir = q; name = other }) ≡ false → entry_of (without_entry t d name n) q (Entry other) ≡ entry_of t q (Entry other)
  entry_kept q other apart =
      let same = target_left q other ∙ ap (λ b. cond (not b) (entry_number t (record { dir = q; name = other })) None) apart in
      entry-same t (without_entry t d name n) q other same
      (λ k e. place_kept k (target_lives (without_entry t d name n) (without_entry-IsWellFormed t d name n well leads unentered) (record { dir = q; name = other }) k (same ∙ e)))

  parent_kept : (q : ℕ) → n ≢ q → entry_of (without_entry t d name n) q Parent ≡ entry_of t q Parent
  parent_kept q other = parent-same t (without_entry t d name n) q (inode-left t d name n q other) (λ live. holder_kept q other)
      (λ up e. target-same t (without_entry t d name n) up (inode-left t d name n up (not_holder t d name n well leads unentered t.inodes q up e)))

  gone_is : names_of t n ≡ 1 → keys_gone t n ≡ own_keys n (kind_of inode)
  gone_is one = ap (λ (k : ℕ). if k == 1 then keys_at n (inode_of t n) else []) one ∙ ap (keys_at n) lives

  single : inode ≡ Directory → names_of t n ≡ 1
  single is = let alive = well.inodes n Directory (lives ∙ ap Some is) in alive.reached.0 (not_root t d name n well leads unentered t.inodes)

  not_live : (q : ℕ) → is_live_directory t q ≡ false → is_live_directory (without_entry t d name n) q ≡ false
  not_live q e = ap is_directory_inode (inode-after t d name n well leads unentered q) ∙ by_tests (names_of t n == 1) (n == q)
    where
      by_tests : (b c : Bool) → is_directory_inode (cond b (cond c None (inode_of t q)) (inode_of t q)) ≡ false
      by_tests true true = refl
      by_tests true false = e
      by_tests false c = e

  no_text : (q : ℕ) → text_of t q ≡ None → text_of (without_entry t d name n) q ≡ None
  no_text q e = ap (option_and_then text_in) (inode-after t d name n well leads unentered q) ∙ by_tests (names_of t n == 1) (n == q)
    where
      by_tests : (b c : Bool) → option_and_then text_in (cond b (cond c None (inode_of t q)) (inode_of t q)) ≡ None
      by_tests true true = refl
      by_tests true false = e
      by_tests false c = e

  own_parent : (i : Inode) → inode ≡ i → IsAmong (record { number = n; label = Parent }) (keys_gone t n) ⊎ (entry_of (without_entry t d name n) n Parent ≡ entry_of t n Parent)
  own_parent Directory is = inl (subst (IsAmong (record { number = n; label = Parent })) (sym (gone_is (single is) ∙ ap (λ i. own_keys n (kind_of i)) is)) (inl refl))
  own_parent Regular is = let dead : is_live_directory t n ≡ false = ap is_directory_inode (lives ∙ ap Some is) in inr (no_parent (without_entry t d name n) n (not_live n dead) ∙ sym (no_parent t n dead))
  own_parent (Symbolic text) is = let dead : is_live_directory t n ≡ false = ap is_directory_inode (lives ∙ ap Some is) in inr (no_parent (without_entry t d name n) n (not_live n dead) ∙ sym (no_parent t n dead))

  own_text : (i : Inode) → inode ≡ i → (names_of t n == 1) ≡ true → IsAmong (record { number = n; label = Text }) (keys_gone t n) ⊎ (text_of (without_entry t d name n) n ≡ text_of t n)
  own_text Directory is one = let none : text_of t n ≡ None = ap (option_and_then text_in) (lives ∙ ap Some is) in inr (no_text n none ∙ sym none)
  own_text Regular is one = let none : text_of t n ≡ None = ap (option_and_then text_in) (lives ∙ ap Some is) in inr (no_text n none ∙ sym none)
  own_text (Symbolic text) is one = inl (subst (IsAmong (record { number = n; label = Text })) (sym (gone_is (decided (names_of t n) 1 one) ∙ ap (λ i. own_keys n (kind_of i)) is)) (inl refl))

  text_there : IsAmong (record { number = n; label = Text }) (keys_gone t n) ⊎ (text_of (without_entry t d name n) n ≡ text_of t n)
  text_there = elim (decide (names_of t n == 1)) [
    | inl one ↦ own_text inode refl one
    | inr more ↦ inr (text-same t (without_entry t d name n) n (inode-after t d name n well leads unentered n ∙ ap (λ b. cond b (cond (n == n) None (inode_of t n)) (inode_of t n)) more))
  ]

  pub removed-others : KeepsOthers t (without_entry t d name n) (entry_key d name ∷ keys_gone t n)
  removed-others key = by_label key.label key.number
    where
      by_label : (label : Label) (q : ℕ) → IsAmong (record { number = q; label = label }) (entry_key d name ∷ keys_gone t n)
          ⊎ (fact_at (without_entry t d name n) (record { number = q; label = label }) ≡ fact_at t (record { number = q; label = label }))
      by_label (Entry other) q = elim (decide (eq_by_cmp spot_cmp (record { dir = d; name = name }) (record { dir = q; name = other }))) [
        | inl e ↦ inl (inl (sym (same_key q d other name e)))
        | inr e ↦ inr (ap (λ f. (f, None)) (entry_kept q other e))
      ]
      by_label Parent q = elim (decide (n == q)) [
        | inl e ↦ subst (λ (k : ℕ). IsAmong (record { number = k; label = Parent }) (entry_key d name ∷ keys_gone t n)
            ⊎ (fact_at (without_entry t d name n) (record { number = k; label = Parent }) ≡ fact_at t (record { number = k; label = Parent }))) (decided n q e)
            (elim (own_parent inode refl) [ inl among ↦ inl (inr among) | inr same ↦ inr (ap (λ f. (f, None)) same) ])
        | inr e ↦ inr (ap (λ f. (f, None)) (parent_kept q (decided_not n q e)))
      ]
      by_label Text q = elim (decide (n == q)) [
        | inl e ↦ subst (λ (k : ℕ). IsAmong (record { number = k; label = Text }) (entry_key d name ∷ keys_gone t n)
            ⊎ (fact_at (without_entry t d name n) (record { number = k; label = Text }) ≡ fact_at t (record { number = k; label = Text }))) (decided n q e)
            (elim text_there [ inl among ↦ inl (inr among) | inr same ↦ inr (ap (λ f. (None, f)) same) ])
        | inr e ↦ inr (ap (λ f. (None, f)) (text-same t (without_entry t d name n) q (inode-left t d name n q (decided_not n q e))))
      ]

  -- with its last name the inode has gone
  pub inode_gone : (names_of t n == 1) ≡ true → inode_of (without_entry t d name n) n ≡ None
  inode_gone one = inode-after t d name n well leads unentered n ∙ rw one (rw (same_test n) refl)

  pub gone-each : (u : Tree) → inode_of u n ≡ inode_of (without_entry t d name n) n → (key : Key) → IsAmong key (keys_gone t n) → fact_at u key ≢ fact_at t key
  gone-each u same_inode key among = by_count (names_of t n == 1) refl among
    where
      by_inode : (i : Inode) → inode ≡ i → (names_of t n == 1) ≡ true → IsAmong key (own_keys n (kind_of i)) → fact_at u key ≢ fact_at t key
      by_inode Directory is one (inl at) =
          let up = held_by t n (single is) in
          let live : IsTrue (is_live_directory t n) = ap is_directory_inode (lives ∙ ap Some is) in
          let before = parent-fact t n up.0 (holder-live t well n up.0 up.1) live (not_root t d name n well leads unentered t.inodes) up.1 in
          entries-differ t u key n Parent (Some (up.0, Dir)) None at (ap (λ f. (f, None)) before) (ap (λ f. (f, None)) (no_parent u n (ap is_directory_inode (same_inode ∙ inode_gone one)))) (λ e. cc)
      by_inode Directory is one (inr never) = absurd never
      by_inode Regular is one never = absurd never
      by_inode (Symbolic text) is one (inl at) = texts-differ t u key n (Some text) None at (ap (option_and_then text_in) (lives ∙ ap Some is)) (ap (option_and_then text_in) (same_inode ∙ inode_gone one)) (λ e. cc)
      by_inode (Symbolic text) is one (inr never) = absurd never

      by_count : (b : Bool) → (names_of t n == 1) ≡ b → IsAmong key (if b then keys_at n (inode_of t n) else []) → fact_at u key ≢ fact_at t key
      by_count true one own = by_inode inode refl one (subst (λ o. IsAmong key (keys_at n o)) lives own)
      by_count false more never = absurd never

  pub removed-each : AltersEach t (without_entry t d name n) (entry_key d name ∷ keys_gone t n)
  removed-each key (inl is) = entries-differ t (without_entry t d name n) key d (Entry name) (Some (n, kind_of inode)) None is (ap (λ f. (f, None)) (entry-fact t d name n inode leads lives))
      (ap (λ f. (f, None)) (no_entry (without_entry t d name n) d name (target_left d name ∙ rw (tied d name) refl))) (λ e. cc)
  removed-each key (inr own) = gone-each (without_entry t d name n) refl key own

-- Which keys two names that swap their inodes touch.
use Rattle.std.proofs.Common.{◌≡◌, ◌≢◌, ◌⊎◌, inl, inr, ℕ, ◌==◌, ◌&&◌, List, [], ◌∷◌, ◌++◌, Bool, true, false, not, Option, Some, None, IsTrue, refl, ap, sym, ◌∙◌, subst, if◌then◌else◌}
use Rattle.std.specs.Ordering.{eq_by_cmp}
use Rattle.dc_names.specs.declared.kind.Kind.TheVariants.{Dir}
use Rattle.dc_plain.specs.Conditions.{CanSwap}
use Rattle.dc_plain.specs.declared.call.Flags.{Flags}
use Rattle.dc_plain.specs.EffectFacts.{SwapsNames}
use Rattle.dc_plain.specs.Effects.{tree_swapped}
use Rattle.dc_plain.specs.Facts.{Key, Label, Target}
use Rattle.dc_plain.specs.Facts.Label.{Entry, Parent, Text}
use Rattle.dc_plain.specs.IsWellFormed.{IsWellFormed}
use Rattle.dc_plain.specs.Spots.{spot_at}
use Rattle.dc_plain.specs.TouchedKeys.{entry_key, keys_by, keys_moved, keys_renamed, keys_swapped, lead_to_one, with_number}
use Rattle.dc_plain.specs.Trees.{Tree, Inode, spot_cmp, entry_number, entry_of, fact_at, kind_of, is_live_directory}
use Rattle.dc_plain.proofs.Found.{Leads}
use Rattle.dc_plain.proofs.Holders.{decided, decided_not}
use Rattle.dc_plain.proofs.KeysRenamed.{among_back, among_either, among_front, not_root, parent_before}
use Rattle.dc_plain.proofs.SameFacts.{IsAmong, KeepsOthers, AltersEach, decide, same_key, entry-same, parent-same, no_parent, parent-fact, entry-fact, entries-differ, tied}
use Rattle.dc_plain.proofs.Living.{names-live}
use Rattle.dc_plain.proofs.Swapped.{swapped-changes}

-- by the flags
pub keys_plain : (flags : Flags) (t : Tree) (from : ℕ) (old : List ℕ) (to : ℕ) (new : List ℕ) → flags.exchange ≡ false → keys_by flags t from old to new ≡ keys_renamed t from old to new
keys_plain flags t from old to new is = ap (λ b. if b then keys_swapped t from old to new else keys_renamed t from old to new) is

pub keys_exchanged : (flags : Flags) (t : Tree) (from : ℕ) (old : List ℕ) (to : ℕ) (new : List ℕ) → flags.exchange ≡ true → keys_by flags t from old to new ≡ keys_swapped t from old to new
keys_exchanged flags t from old to new is = ap (λ b. if b then keys_swapped t from old to new else keys_renamed t from old to new) is

-- by what the two names lead to
abbrev by_both : Tree → ℕ → List ℕ → ℕ → List ℕ → Option ℕ → Option ℕ → List Key
by_both t from old to new a b = if lead_to_one a b then [] else entry_key from old ∷ entry_key to new ∷ with_number a (keys_moved t from to) ++ with_number b (keys_moved t to from)

pub swapped_keys : (t : Tree) (from : ℕ) (old : List ℕ) (to : ℕ) (new : List ℕ) (m n : ℕ) → entry_number t (spot_at from old) ≡ Some m → entry_number t (spot_at to new) ≡ Some n → (m == n) ≡ false
    → keys_swapped t from old to new ≡ entry_key from old ∷ entry_key to new ∷ keys_moved t from to m ++ keys_moved t to from n
swapped_keys t from old to new m n first second apart = (λ i. by_both t from old to new (first i) (second i)) ∙ rw apart refl

-- if both lead to one inode
pub unswapped_keys : (t : Tree) (from : ℕ) (old : List ℕ) (to : ℕ) (new : List ℕ) (m n : ℕ) → entry_number t (spot_at from old) ≡ Some m → entry_number t (spot_at to new) ≡ Some n → (m == n) ≡ true
    → keys_swapped t from old to new ≡ []
unswapped_keys t from old to new m n first second same = (λ i. by_both t from old to new (first i) (second i)) ∙ rw same refl

module _ (t : Tree) (from : ℕ) (old : List ℕ) (moved : Target) (to : ℕ) (new : List ℕ) (there : Target) (well : IsWellFormed t) (source : Leads t from old moved) (at : Leads t to new there)
    (can : CanSwap t (spot_at from old) moved.0 (spot_at to new) there.0) where
  abbrev swapped : Tree
  swapped = tree_swapped t (spot_at from old) moved.0 (spot_at to new) there.0

  facts : SwapsNames t (spot_at from old) moved.0 (spot_at to new) there.0 swapped
  facts = swapped-changes t (spot_at from old) moved.0 (spot_at to new) there.0 well can

  -- a directory of the two has the other's parent
  first_parent : IsTrue (is_live_directory t moved.0) → entry_of swapped moved.0 Parent ≡ Some (to, Dir)
  first_parent live =
      let dir = names-live t (spot_at to new) there.0 well can.second in
      parent-fact swapped moved.0 to dir.held live (not_root t from old to new moved.0 source.inode well source.target source.lives) (facts.held live)

  second_parent : IsTrue (is_live_directory t there.0) → entry_of swapped there.0 Parent ≡ Some (from, Dir)
  second_parent live =
      let dir = names-live t (spot_at from old) moved.0 well can.first in
      parent-fact swapped there.0 from dir.held live (not_root t to new from old there.0 at.inode well at.target at.lives) (facts.held_too live)

  -- if the two names stand in one directory it is the one that it was
  own_parent : (n up down : ℕ) → (IsTrue (is_live_directory t n) → entry_of t n Parent ≡ Some (up, Dir)) → (IsTrue (is_live_directory t n) → entry_of swapped n Parent ≡ Some (down, Dir))
      → (b : Bool) → is_live_directory t n ≡ b → (c : Bool) → (up == down) ≡ c
      → IsAmong (record { number = n; label = Parent }) (if b && not c then record { number = n; label = Parent } ∷ [] else []) ⊎ (entry_of swapped n Parent ≡ entry_of t n Parent)
  own_parent n up down before later false live c e = inr (no_parent swapped n live ∙ sym (no_parent t n live))
  own_parent n up down before later true live false e = inl (inl refl)
  own_parent n up down before later true live true e = inr (later live ∙ ap (λ (k : ℕ). Some (k, Dir)) (sym (decided up down e)) ∙ sym (before live))

  first_before : IsTrue (is_live_directory t moved.0) → entry_of t moved.0 Parent ≡ Some (from, Dir)
  first_before live = parent_before t from old to new moved.0 source.inode well source.target source.lives live

  second_before : IsTrue (is_live_directory t there.0) → entry_of t there.0 Parent ≡ Some (to, Dir)
  second_before live = parent_before t to new from old there.0 at.inode well at.target at.lives live

  abbrev keys : List Key
  keys = entry_key from old ∷ entry_key to new ∷ keys_moved t from to moved.0 ++ keys_moved t to from there.0

  first_among : (key : Key) → IsAmong key (keys_moved t from to moved.0) → IsAmong key keys
  first_among key among = inr (inr (among_front key (keys_moved t from to moved.0) (keys_moved t to from there.0) among))

  second_among : (key : Key) → IsAmong key (keys_moved t to from there.0) → IsAmong key keys
  second_among key among = inr (inr (among_back key (keys_moved t from to moved.0) (keys_moved t to from there.0) among))

  abbrev KeptOr : Key → Type 0
  KeptOr key = IsAmong key keys ⊎ (fact_at swapped key ≡ fact_at t key)

  pub swapped-others : KeepsOthers t swapped keys
  swapped-others key = by_label key.label key.number
    where
      by_label : (label : Label) (q : ℕ) → KeptOr (record { number = q; label = label })
      by_label (Entry other) q = elim (decide (eq_by_cmp spot_cmp (spot_at q other) (spot_at from old))) [
        | inl e ↦ inl (inl (same_key from q old other e))
        | inr e ↦ elim (decide (eq_by_cmp spot_cmp (spot_at q other) (spot_at to new))) [
          | inl e' ↦ inl (inr (inl (same_key to q new other e')))
          | inr e' ↦ inr (ap (λ f. (f, None)) (entry-same t swapped q other (facts.elsewhere (spot_at q other) (not_tied q other from old e) (not_tied q other to new e')) (λ k is. refl)))
        ]
      ]
        where
          two_tests : (b : Bool) → b ≡ true → b ≡ false → ⊥
          two_tests true is not = cc
          two_tests false is not = cc

          not_tied : (q : ℕ) (other : List ℕ) (d : ℕ) (name : List ℕ) → eq_by_cmp spot_cmp (spot_at q other) (spot_at d name) ≡ false → spot_at q other ≢ spot_at d name
          not_tied q other d name e same = two_tests (eq_by_cmp spot_cmp (spot_at q other) (spot_at d name)) (ap (eq_by_cmp spot_cmp (spot_at q other)) (sym same) ∙ tied q other) e
      by_label Parent q = elim (decide (moved.0 == q)) [
        | inl e ↦ subst (λ (k : ℕ). KeptOr (record { number = k; label = Parent })) (decided moved.0 q e)
            (elim (own_parent moved.0 from to first_before first_parent (is_live_directory t moved.0) refl (from == to) refl) [ inl among ↦ inl (first_among _ among) | inr same ↦ inr (ap (λ f. (f, None)) same) ])
        | inr e ↦ elim (decide (there.0 == q)) [
          | inl e' ↦ subst (λ (k : ℕ). KeptOr (record { number = k; label = Parent })) (decided there.0 q e')
              (elim (own_parent there.0 to from second_before second_parent (is_live_directory t there.0) refl (to == from) refl) [ inl among ↦ inl (second_among _ among) | inr same ↦ inr (ap (λ f. (f, None)) same) ])
          | inr e' ↦ inr (ap (λ f. (f, None)) (parent-same t swapped q refl (λ live. facts.still_held q (λ same. decided_not moved.0 q e (sym same)) (λ same. decided_not there.0 q e' (sym same))) (λ up is. refl)))
        ]
      ]
      by_label Text q = inr refl

  -- a directory that gets another parent says so
  parent_differs : (n up down : ℕ) → (IsTrue (is_live_directory t n) → entry_of t n Parent ≡ Some (up, Dir)) → (IsTrue (is_live_directory t n) → entry_of swapped n Parent ≡ Some (down, Dir))
      → (key : Key) (b c : Bool) → is_live_directory t n ≡ b → (up == down) ≡ c → IsAmong key (if b && not c then record { number = n; label = Parent } ∷ [] else []) → fact_at swapped key ≢ fact_at t key
  parent_differs n up down before later key false c live is never = absurd never
  parent_differs n up down before later key true true live is never = absurd never
  parent_differs n up down before later key true false live is (inr never) = absurd never
  parent_differs n up down before later key true false live is (inl same) =
      entries-differ t swapped key n Parent (Some (up, Dir)) (Some (down, Dir)) same (ap (λ f. (f, None)) (before live)) (ap (λ f. (f, None)) (later live))
      (λ e. let pair : ◌≡◌ {A = Target} (down, Dir) (up, Dir) = cc in decided_not up down is (sym (ap (λ (p : Target). p.0) pair)))

  other_pair : (m n : ℕ) (i j : Inode) → m ≢ n → ◌≢◌ {A = Option Target} (Some (n, kind_of j)) (Some (m, kind_of i))
  other_pair m n i j apart e = let pair : ◌≡◌ {A = Target} (n, kind_of j) (m, kind_of i) = cc in apart (sym (ap (λ (p : Target). p.0) pair))

  pub swapped-each : AltersEach t swapped keys
  swapped-each key (inl is) = entries-differ t swapped key from (Entry old) (Some (moved.0, kind_of source.inode)) (Some (there.0, kind_of at.inode)) is
      (ap (λ f. (f, None)) (entry-fact t from old moved.0 source.inode source.target source.lives)) (ap (λ f. (f, None)) (entry-fact swapped from old there.0 at.inode facts.first at.lives))
      (other_pair moved.0 there.0 source.inode at.inode can.two)
  swapped-each key (inr (inl is)) = entries-differ t swapped key to (Entry new) (Some (there.0, kind_of at.inode)) (Some (moved.0, kind_of source.inode)) is
      (ap (λ f. (f, None)) (entry-fact t to new there.0 at.inode at.target at.lives)) (ap (λ f. (f, None)) (entry-fact swapped to new moved.0 source.inode facts.second source.lives))
      (other_pair there.0 moved.0 at.inode source.inode (λ same. can.two (sym same)))
  swapped-each key (inr (inr rest)) = elim (among_either key (keys_moved t from to moved.0) (keys_moved t to from there.0) rest) [
    | inl among ↦ parent_differs moved.0 from to first_before first_parent key (is_live_directory t moved.0) (from == to) refl refl among
    | inr among ↦ parent_differs there.0 to from second_before second_parent key (is_live_directory t there.0) (to == from) refl refl among
  ]

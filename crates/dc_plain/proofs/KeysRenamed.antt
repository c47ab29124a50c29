-- Which keys a rename touches.
use Rattle.std.proofs.Common.{◌≡◌, ◌≢◌, ◌⊎◌, inl, inr, ℕ, ◌==◌, ◌&&◌, List, [], ◌∷◌, ◌++◌, Bool, true, false, not, Option, Some, None, IsTrue, refl, ap, sym, ◌∙◌, arith, subst, if◌then◌else◌}
use Rattle.dc_names.specs.declared.kind.Kind.TheVariants.{Dir}
use Rattle.dc_plain.specs.Facts.{Key, Target}
use Rattle.dc_plain.specs.Facts.Label.{Entry, Parent}
use Rattle.dc_plain.specs.Trees.{Tree, Inode, inode_of, entry_number, entry_of, fact_at, kind_of, names_of, is_live_directory, is_directory_inode}
use Rattle.dc_plain.specs.Trees.Inode.{Directory}
use Rattle.dc_plain.specs.Effects.{without_entry}
use Rattle.dc_plain.specs.TouchedKeys.{entry_key, keys_moved, keys_gone, keys_renamed, with_number, lead_to_one}
use Rattle.dc_plain.specs.IsWellFormed.{IsWellFormed}
use Rattle.dc_plain.proofs.Made.{is_directory_in}
use Rattle.dc_plain.proofs.Holders.{holder-live, decided_not}
use Rattle.dc_plain.proofs.Removed.{IsUnentered, inode-left}
use Rattle.dc_plain.proofs.Moved.{IsReady, moved_to}
use Rattle.dc_plain.proofs.KeysRemoved.{removed-others}
use Rattle.dc_plain.proofs.KeysMoved.{some_counted, holder_is, old_after, new_after, parent_after, moved-others}
use Rattle.dc_plain.proofs.SameFacts.{IsAmong, KeepsOthers, AltersEach, parent-fact, entry-fact, entries-differ}

pub among_front : (key : Key) (xs ys : List Key) → IsAmong key xs → IsAmong key (xs ++ ys)
among_front key [] ys never = absurd never
among_front key (x ∷ xs) ys (inl is) = inl is
among_front key (x ∷ xs) ys (inr later) = inr (among_front key xs ys later)

pub among_back : (key : Key) (xs ys : List Key) → IsAmong key ys → IsAmong key (xs ++ ys)
among_back key [] ys among = among
among_back key (x ∷ xs) ys among = inr (among_back key xs ys among)

pub among_either : (key : Key) (xs ys : List Key) → IsAmong key (xs ++ ys) → IsAmong key xs ⊎ IsAmong key ys
among_either key [] ys among = inr among
among_either key (x ∷ xs) ys (inl is) = inl (inl is)
among_either key (x ∷ xs) ys (inr later) = elim (among_either key xs ys later) [ inl a ↦ inl (inr a) | inr a ↦ inr a ]

-- by what the two names lead to
abbrev by_targets : Tree → ℕ → List ℕ → ℕ → List ℕ → Option ℕ → Option ℕ → List Key
by_targets t from old to new a b = if lead_to_one a b then [] else entry_key from old ∷ entry_key to new ∷ with_number a (keys_moved t from to) ++ with_number b (keys_gone t)

pub renamed_keys : (t : Tree) (from : ℕ) (old : List ℕ) (to : ℕ) (new : List ℕ) (n : ℕ) (there : Option ℕ) → entry_number t (record { dir = from; name = old }) ≡ Some n
    → entry_number t (record { dir = to; name = new }) ≡ there → lead_to_one (Some n) there ≡ false → keys_renamed t from old to new ≡ entry_key from old ∷ entry_key to new ∷ keys_moved t from to n ++ with_number there (keys_gone t)
renamed_keys t from old to new n there source at apart = (λ i. by_targets t from old to new (source i) (at i)) ∙ rw apart refl

-- if both lead to one inode
pub unmoved_keys : (t : Tree) (from : ℕ) (old : List ℕ) (to : ℕ) (new : List ℕ) (n m : ℕ) → entry_number t (record { dir = from; name = old }) ≡ Some n → entry_number t (record { dir = to; name = new }) ≡ Some m → (n == m) ≡ true
    → keys_renamed t from old to new ≡ []
unmoved_keys t from old to new n m source at same = (λ i. by_targets t from old to new (source i) (at i)) ∙ rw same refl

module _ (t : Tree) (from : ℕ) (old : List ℕ) (to : ℕ) (new : List ℕ) (n : ℕ) (inode : Inode) (well : IsWellFormed t) (source : entry_number t (record { dir = from; name = old }) ≡ Some n) (lives : inode_of t n ≡ Some inode) where
  pub not_root : n ≢ 1
  not_root same =
      let some = some_counted (record { dir = from; name = old }) n t.entries source in
      let none : names_of t n ≡ 0 = ap (names_of t) same ∙ well.no_entry_leads_to_root in
      absurd (omega arith)

  pub parent_before : IsTrue (is_live_directory t n) → entry_of t n Parent ≡ Some (from, Dir)
  parent_before live =
      let alive = well.inodes n Directory (is_directory_in (inode_of t n) live) in
      let held = holder_is t from old n source (alive.reached.0 not_root) in
      parent-fact t n from (holder-live t well n from held) live not_root held

  -- nothing stands at the new name
  pub alone-others : IsReady t from old to new n → KeepsOthers t (moved_to t from old to new n) (entry_key from old ∷ entry_key to new ∷ keys_moved t from to n ++ [])
  alone-others ready key = elim (moved-others t from old to new n inode ready lives not_root key) [
    | inl among ↦ inl (among_front key (entry_key from old ∷ entry_key to new ∷ keys_moved t from to n) [] among)
    | inr same ↦ inr same
  ]

  -- m gives way there
  pub over-others : (m : ℕ) (gone : Inode) → entry_number t (record { dir = to; name = new }) ≡ Some m → IsUnentered t m → inode_of t m ≡ Some gone → m ≢ n → IsReady (without_entry t to new m) from old to new n
      → KeepsOthers t (moved_to (without_entry t to new m) from old to new n) (entry_key from old ∷ entry_key to new ∷ keys_moved t from to n ++ keys_gone t m)
  over-others m gone at unentered gone_lives apart ready key =
      elim (removed-others t to new m gone well at unentered gone_lives key) [
        | inl (inl is) ↦ inl (inr (inl is))
        | inl (inr among) ↦ inl (among_back key (entry_key from old ∷ entry_key to new ∷ keys_moved t from to n) (keys_gone t m) among)
        | inr same ↦ elim (moved-others (without_entry t to new m) from old to new n inode ready (inode-left t to new m n apart ∙ lives) not_root key) [
          | inl among ↦ inl (among_front key (entry_key from old ∷ entry_key to new ∷ keys_moved t from to n) (keys_gone t m)
              (subst (λ b. IsAmong key (entry_key from old ∷ entry_key to new ∷ (if b && not (from == to) then record { number = n; label = Parent } ∷ [] else []))) (ap is_directory_inode (inode-left t to new m n apart)) among))
          | inr after ↦ inr (after ∙ same)
        ]
      ]

  -- what each of the keys says afterwards, if the tree before the move is v
  module _ (v : Tree) (ready : IsReady v from old to new n) (same_inode : inode_of v n ≡ inode_of t n) (there : Option Target) (at : entry_of t to (Entry new) ≡ there) (apart : Some (n, kind_of inode) ≢ there)
      (gone : List Key) (each_gone : (key : Key) → IsAmong key gone → fact_at (moved_to v from old to new n) key ≢ fact_at t key) where
    moved_key : (key : Key) (b c : Bool) → is_live_directory t n ≡ b → (from == to) ≡ c → IsAmong key (if b && not c then record { number = n; label = Parent } ∷ [] else []) → fact_at (moved_to v from old to new n) key ≢ fact_at t key
    moved_key key false c live is never = absurd never
    moved_key key true true live is never = absurd never
    moved_key key true false live is (inr never) = absurd never
    moved_key key true false live is (inl same) =
        let live_v : IsTrue (is_live_directory v n) = ap is_directory_inode same_inode ∙ live in
        entries-differ t (moved_to v from old to new n) key n Parent (Some (from, Dir)) (Some (to, Dir)) same (ap (λ f. (f, None)) (parent_before live))
        (ap (λ f. (f, None)) (parent_after v from old to new n inode ready (same_inode ∙ lives) not_root live_v)) (λ e. let pair : ◌≡◌ {A = Target} (to, Dir) (from, Dir) = cc in decided_not from to is (sym (ap (λ (p : Target). p.0) pair)))

    pub renamed-each : AltersEach t (moved_to v from old to new n) (entry_key from old ∷ entry_key to new ∷ keys_moved t from to n ++ gone)
    renamed-each key (inl is) = entries-differ t (moved_to v from old to new n) key from (Entry old) (Some (n, kind_of inode)) None is (ap (λ f. (f, None)) (entry-fact t from old n inode source lives))
        (ap (λ f. (f, None)) (old_after v from old to new n inode ready (same_inode ∙ lives) not_root)) (λ e. cc)
    renamed-each key (inr (inl is)) = entries-differ t (moved_to v from old to new n) key to (Entry new) there (Some (n, kind_of inode)) is (ap (λ f. (f, None)) at)
        (ap (λ f. (f, None)) (new_after v from old to new n inode ready (same_inode ∙ lives) not_root)) apart
    renamed-each key (inr (inr rest)) = elim (among_either key (keys_moved t from to n) gone rest) [
      | inl among ↦ moved_key key (is_live_directory t n) (from == to) refl refl among
      | inr among ↦ each_gone key among
    ]

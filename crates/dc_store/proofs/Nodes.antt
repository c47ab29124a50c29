-- What a node says of the tree that entries and nodes stand for.
use Rattle.std.proofs.Common.{Ok, Err, is_ok, ◌≡◌, ℕ, ◌==◌, List, [], ◌∷◌, Bool, true, false, not, cond, if◌then◌else◌, map, Option, Some, None, Bor, option_map, option_and_then, IfSome, IsTrue, find, refl, ap, sym, ◌∙◌, subst}
use Rattle.std.specs.List.{AllByRecursion}
use Rattle.std.specs.Map.{lookup, set_value}
use Rattle.std.specs.Option.{option_copied}
use Rattle.std.specs.Ordering.{nat_cmp}
use Rattle.dc_names.specs.Paths.{fault_of, path_in}
use Rattle.dc_names.specs.declared.fault.TextFault.{TextFault}
use Rattle.dc_plain.specs.Facts.{Target}
use Rattle.dc_plain.specs.IsWellFormed.{Stands}
use Rattle.dc_plain.specs.Resolution.{root}
use Rattle.dc_plain.specs.Trees.{Tree, Inode, Spot, inode_of, target_at, holder_of, kind_of, is_live_directory, is_directory_inode}
use Rattle.dc_plain.specs.Trees.Inode.{Symbolic}
use Rattle.dc_store.specs.Maps.{IsNodeAt, inode_shown, node_shown, tree_in, node_at, with_parent, IsSound}
use Rattle.dc_store.specs.declared.node.Node as rust_node
use Rattle.dc_store.specs.declared.node.Node.TheVariants as kinds
use Rattle.dc_store.proofs.Maps.{lookup_shown, all_of_each}
use Rattle.dc_store.proofs.Decides.{is_directory_in}

pub copied_mapped : {X Y : Type 0} (f : X → Y) (o : Option (Bor X)) → option_map (λ x. f x.now) o ≡ option_map f (option_copied o)
copied_mapped f None = refl
copied_mapped f (Some x) = refl

-- the number of a place
abbrev pub numbers : Option Target → Option ℕ
numbers = option_map (λ place. place.0)

-- the directory of an entry that is found lives
pub held_lives : (t : Tree) (p : Spot × ℕ → Bool) (es : List (Spot × ℕ)) → AllByRecursion (Stands t) es → (up : ℕ) → option_map (λ e. e.0.dir) (find p es) ≡ Some up → IsTrue (is_live_directory t up)
held_lives t p [] all up e = cc
held_lives t p (x ∷ xs) all up e =
    elim (p x) as (λ b. option_map (λ e. e.0.dir) (cond b (Some x) (find p xs)) ≡ Some up → IsTrue (is_live_directory t up)) [
      | true ↦ λ is. let same : x.0.dir ≡ up = cc in subst (λ k. IsTrue (is_live_directory t k)) same all.0.held
      | false ↦ λ is. held_lives t p xs all.1 up is
    ] e

module _ (entries : List (Spot × ℕ)) (nodes : List (ℕ × rust_node.Node)) (next : ℕ) (n : ℕ) where
  pub inode_shown_at : option_map node_shown (node_at nodes n) ≡ inode_of (tree_in entries nodes next) n
  inode_shown_at = lookup_shown nat_cmp (λ k. k) node_shown (nat_cmp n) n nodes (all_of_each _ (λ e. refl) nodes)

  pub node_found : (o : Option (Bor rust_node.Node)) → option_copied o ≡ node_at nodes n → option_map (λ node. node_shown node.now) o ≡ inode_of (tree_in entries nodes next) n
  node_found o is = copied_mapped node_shown o ∙ ap (option_map node_shown) is ∙ inode_shown_at

  abbrev pub t : Tree
  t = tree_in entries nodes next

  pub shown_as : (node : rust_node.Node) → node_at nodes n ≡ Some node → inode_of t n ≡ Some (node_shown node)
  shown_as node is = sym inode_shown_at ∙ ap (option_map node_shown) is

  up_lives : IsSound entries nodes next → (up : ℕ) (b : Bool) → cond b (Some 1) (holder_of t n) ≡ Some up → IsTrue (is_live_directory t up)
  up_lives sound up true e = let same : 1 ≡ up = cc in subst (λ k. IsTrue (is_live_directory t k)) same (ap is_directory_inode sound.well.root_is)
  up_lives sound up false e = held_lives t (λ e'. e'.1 == n) t.entries sound.well.entries up e

  abbrev up_of : Option Inode → Option ℕ
  up_of o = numbers (if not (is_directory_inode o) then None else if n == 1 then Some root else option_and_then (target_at t) (holder_of t n))

  up_told : IsSound entries nodes next → (up : ℕ) (b : Bool) → cond b (Some 1) (holder_of t n) ≡ Some up → Some up ≡ numbers (cond b (Some root) (option_and_then (target_at t) (holder_of t n)))
  up_told sound up true e = sym e
  up_told sound up false e =
      let live = held_lives t (λ e'. e'.1 == n) t.entries sound.well.entries up e in
      ap (λ i. numbers (option_map (λ inode. (up, kind_of inode)) i)) (sym (is_directory_in (inode_of t up) live)) ∙ ap (λ o. numbers (option_and_then (target_at t) o)) (sym e)

  path_told : (text : List ℕ) (o : Option TextFault) → IsTrue (is_ok (elim o [ None ↦ Ok (path_in text) | Some fault ↦ Err fault ])) → o ≡ None
  path_told text None ok = refl
  path_told text (Some fault) ok = cc

  pub told : IsSound entries nodes next → (node : rust_node.Node) → node_at nodes n ≡ Some node → IsNodeAt t n node
  told sound (kinds.Dir up) is =
      let parent = sound.parents n up is in
      record { parent = up_told sound up (n == 1) parent ∙ ap up_of (sym (shown_as (kinds.Dir up) is)); directory = up_lives sound up (n == 1) parent; path = tt }
  told sound kinds.File is = record { parent = ap up_of (sym (shown_as kinds.File is)); directory = tt; path = tt }
  told sound (kinds.Link text) is =
      let lives = sound.well.inodes n (Symbolic text.items) (shown_as (kinds.Link text) is) in
      record { parent = ap up_of (sym (shown_as (kinds.Link text) is)); directory = tt; path = path_told text.items (fault_of text.items) lives.reached.2 }

  pub node_told : IsSound entries nodes next → (o : Option (Bor rust_node.Node)) → option_copied o ≡ node_at nodes n → IfSome o (λ node. IsNodeAt t n node.now)
  node_told sound None is = tt
  node_told sound (Some b) is = told sound b.now (sym is)

pub shown_the_same : (up : ℕ) (node : rust_node.Node) → node_shown (with_parent up node) ≡ node_shown node
shown_the_same up (kinds.Dir old) = refl
shown_the_same up kinds.File = refl
shown_the_same up (kinds.Link text) = refl

-- a node that shows the same in place of the one that was found
pub set_shown : (test : ℕ → Bool) (es : List (ℕ × rust_node.Node)) (v w : rust_node.Node) → Some v ≡ lookup test es → node_shown w ≡ node_shown v → map inode_shown (set_value test es w) ≡ map inode_shown es
set_shown test [] v w found same = refl
set_shown test (e ∷ es) v w found same =
    elim (test e.0) as (λ b. Some v ≡ cond b (Some e.1) (lookup test es) → map inode_shown (cond b ((e.0, w) ∷ es) (e ∷ set_value test es w)) ≡ inode_shown e ∷ map inode_shown es) [
      | true ↦ λ is. let here : v ≡ e.1 = cc in ap (λ i. (e.0, i) ∷ map inode_shown es) (same ∙ ap node_shown here)
      | false ↦ λ is. ap (λ l. inode_shown e ∷ l) (set_shown test es v w is same)
    ] found

pub parent_shown : (test : ℕ → Bool) (es : List (ℕ × rust_node.Node)) (up : ℕ) (v w : rust_node.Node) → Some v ≡ lookup test es → w ≡ with_parent up v → map inode_shown (set_value test es w) ≡ map inode_shown es
parent_shown test es up v w found is = set_shown test es v w found (ap node_shown is ∙ shown_the_same up v)

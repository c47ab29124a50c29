-- What a path, a name or a holder leads to lives.
use Rattle.std.proofs.Common.{◌≡◌, ℕ, List, Bool, true, false, not, Some, is_some, IsTrue, refl, ap, sym, ◌∙◌, subst, cond, [], ◌∷◌}
use Rattle.std.specs.Ordering.{eq_by_cmp}
use Rattle.std.specs.FinMap.Entries.{find as lookup}
use Rattle.std.specs.List.{AllByRecursion}
use Rattle.dc_plain.specs.IsWellFormed.{Stands}
use Rattle.dc_plain.specs.LivingLaws.{WalksLeadToTheLiving, PlacesAreInLiveDirectories, TextsAreInLiveDirectories, NamesLeadToTheLiving, NamesLeadSomewhere, HoldersAreLiveDirectories, DirectoriesHaveOneName, NextNumberIsUnused, ClimbsEndUnheld, ClimbsGoByHolders, SpotsTie, AltersDecides, SameTreeDecides}
use Rattle.dc_plain.specs.Runs.{same_tree, tree_after}
use Rattle.dc_plain.specs.Trees.{Tree, Spot, spot_cmp, inode_of, is_live_directory}
use Rattle.dc_plain.specs.Trees.Inode.{Directory}
use Rattle.dc_plain.proofs.Climbs.{climb-none, climb-up}
use Rattle.dc_plain.proofs.Holders.{holder-live}
use Rattle.dc_plain.proofs.Keys.{target_lives}
use Rattle.dc_plain.proofs.Made.{free_spot, is_directory_in, unused_number}
use Rattle.dc_plain.proofs.MoveFacts.{entry_not_root}
use Rattle.dc_plain.proofs.Moved.{held_by}
use Rattle.dc_plain.proofs.Puts.{All-weaker}
use Rattle.dc_plain.proofs.SameFacts.{same_spot, tied}
use Rattle.dc_plain.proofs.SameTree.{alters_so, same_tree-refl, same_tree_is}
use Rattle.dc_plain.proofs.Spotted.{place_live, spot_live, walk_stands}

pub walks-live : WalksLeadToTheLiving
walks-live t base text how target well e = walk_stands t well.root_is base text how target e

pub places-live : PlacesAreInLiveDirectories
places-live t base path at well e = place_live t base path at well.root_is e

pub texts-live : TextsAreInLiveDirectories
texts-live t base text at well e = spot_live t base text at well.root_is e

-- the directory of an entry that is found
entry-held : (P : ℕ → Type 0) (spot : Spot) (es : List (Spot × ℕ)) (n : ℕ) → AllByRecursion (λ (e : Spot × ℕ). P e.0.dir) es → lookup spot_cmp spot es ≡ Some n → P spot.dir
entry-held P spot [] n all e = cc
entry-held P spot (x ∷ xs) n all e =
    elim (eq_by_cmp spot_cmp spot x.0) as (λ b. eq_by_cmp spot_cmp spot x.0 ≡ b → cond b (Some x.1) (lookup spot_cmp spot xs) ≡ Some n → P spot.dir) [
      | true ↦ λ is found. subst P (ap (λ (s : Spot). s.dir) (sym (same_spot spot x.0 is))) all.0
      | false ↦ λ is found. entry-held P spot xs n all.1 found
    ] refl e

pub names-live : NamesLeadToTheLiving
names-live t spot n well e = record {
  held = entry-held (λ d. IsTrue (is_live_directory t d)) spot t.entries n (All-weaker (Stands t) _ (λ x s. s.held) t.entries well.entries) e;
  lives = target_lives t well spot n e;
  not_root = entry_not_root t spot n well e;
}

pub names-somewhere : NamesLeadSomewhere
names-somewhere t d name well none = free_spot t d name well (ap is_some none)

pub holders-live : HoldersAreLiveDirectories
holders-live t n up well e = holder-live t well n up e

pub one-name : DirectoriesHaveOneName
one-name t n well live other =
    let lives = well.inodes n Directory (is_directory_in (inode_of t n) live) in
    let one = lives.reached.0 other in
    record { named = one; held = held_by t n one }

pub next-unused : NextNumberIsUnused
next-unused t well = unused_number t well

pub climbs-end : ClimbsEndUnheld
climbs-end steps t d n some other below none = climb-none steps t d n some other below none

pub climbs-go : ClimbsGoByHolders
climbs-go steps t d n up some other below held = climb-up steps t d n up some other below held

pub spots-tie : SpotsTie
spots-tie a b = (same_spot a b, λ same. ap (eq_by_cmp spot_cmp a) (sym same) ∙ tied a.dir a.name)

true_not : (b : Bool) → b ≡ true → not b ≡ true → ⊥
true_not true e f = cc
true_not false e f = cc

pub alters-decides : AltersDecides
alters-decides limit t request = (
  λ test same. true_not (same_tree (tree_after limit t request) t) (ap (λ (u : Tree). same_tree u t) same ∙ same_tree-refl t) test,
  λ other. alters_so limit t request other,
)

pub same-decides : SameTreeDecides
same-decides t u = (same_tree_is t u, λ same. ap (same_tree t) (sym same) ∙ same_tree-refl t)

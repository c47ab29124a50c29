-- Which name leads to a number: in a directory's map, and in the tree that the inodes stand for.
use Rattle.std.proofs.Common.{◌≡◌, ◌≢◌, ℕ, ◌==◌, List, Bor, Bool, true, false, Option, Some, None, option_map, option_and_then, IfSome, IfNone, IsTrue, refl, ap, sym, subst, ◌∙◌, arith}
use Rattle.std.proofs.lemmas.Map.Entries.{All-lookup}
use Rattle.std.specs.BTreeMap.{is_at}
use Rattle.std.specs.FinMap.Entries.{find as lookup_entry}
use Rattle.std.specs.List.{All}
use Rattle.dc_plain.specs.Facts.{Target}
use Rattle.dc_plain.specs.Facts.Label.{Parent}
use Rattle.dc_plain.specs.IsWellFormed.{IsWellFormed, Stands}
use Rattle.dc_plain.specs.LivingLaws.{DirectoriesHaveOneName, HoldersAreLiveDirectories, NamesLeadToTheLiving}
use Rattle.dc_plain.specs.Spots.{spot_at}
use Rattle.dc_plain.specs.Trees.{Tree, Spot, entry_number, entry_of, inode_of, is_directory_inode, is_live_directory}
use Rattle.dc_names.specs.Bytes.{is_name}
use Rattle.dc_store.specs.Inodes.{inode_at}
use Rattle.dc_store.specs.Names.{name_cmp}
use Rattle.dc_store.specs.declared.inode.Inode.{Inode}
use Rattle.dc_store.proofs.Named.{found, found_by}
use Rattle.dc_store.proofs.Keeps.{Keeps}
use Rattle.dc_store.proofs.KeepsMoved.{led_entry}
use Rattle.dc_store.proofs.Standing.{found_has, held_above, one_spot, same_test}

-- ---- in a directory's map
module _ (es : List (List ℕ × ℕ)) {names : List (List ℕ × ℕ)} (view : es ≡ names) where
  pub leads : (key : List ℕ) (m n : ℕ) → found_by key es ≡ Some m → m ≡ n → {name : List ℕ} → name ≡ key → lookup_entry name_cmp name names ≡ Some n
  leads key m n there same named = sym (found es view _ (sym named)) ∙ there ∙ ap Some same

  no_clash : (n : ℕ) → (n == n) ≡ false → ⊥
  no_clash n e = let clash : true ≡ false = sym (same_test n n refl) ∙ e in cc

  pub none_lead : (n : ℕ) → All (λ e. (e.1 == n) ≡ false) es → (name : List ℕ) → lookup_entry name_cmp name names ≢ Some n
  none_lead n all name e =
      let there : found_by name es ≡ Some n = found es view name refl ∙ e in
      no_clash n (subst (λ (o : Option ℕ). IfSome o (λ (v : ℕ). (v == n) ≡ false)) there (All-lookup (λ (v : ℕ). (v == n) ≡ false) (is_at (name_cmp name)) es all))

-- ---- in the tree that the inodes stand for
module _ {inodes : List (ℕ × Inode)} {next : ℕ} {t : Tree} (now : Keeps inodes next t) (d n : ℕ) where
  leads_so : (inode : Inode) → Some inode ≡ inode_at inodes d → (name : List ℕ) → lookup_entry name_cmp name inode.names ≡ entry_number t (spot_at d name)
  leads_so inode is name = ap (option_and_then (λ (i : Inode). lookup_entry name_cmp name i.names)) is ∙ led_entry now d name

  pub some_leads : (inode : Inode) → Some inode ≡ inode_at inodes d → (r : Option (Bor (List ℕ))) → IfSome r (λ name. lookup_entry name_cmp name.now inode.names ≡ Some n) → IfSome r (λ name. entry_number t (spot_at d name.now) ≡ Some n)
  some_leads inode is None there = tt
  some_leads inode is (Some name) there = sym (leads_so inode is name.now) ∙ there

  pub none_leads : (inode : Inode) → Some inode ≡ inode_at inodes d → (r : Option (Bor (List ℕ))) → IfNone r ((name : List ℕ) → lookup_entry name_cmp name inode.names ≢ Some n) → IfNone r ((name : List ℕ) → entry_number t (spot_at d name) ≢ Some n)
  none_leads inode is None none = λ name e. none name (leads_so inode is name ∙ e)
  none_leads inode is (Some name) none = tt

  pub absent_leads : None ≡ inode_at inodes d → (name : List ℕ) → entry_number t (spot_at d name) ≢ Some n
  absent_leads is name e =
      let clash : ◌≡◌ {A = Option ℕ} None (Some n) = ap (option_and_then (λ (i : Inode). lookup_entry name_cmp name i.names)) is ∙ led_entry now d name ∙ e in cc

-- what holds if nothing was found holds of what was
pub if_none : {X : Type 0} (r : Option X) {P : Type 0} → P → IfNone r P
if_none None p = p
if_none (Some x) p = tt

-- ---- a directory's own entry
pub no_inode : (t : Tree) (n : ℕ) → None ≡ inode_of t n → n ≢ 1 → is_live_directory t n ≡ false
no_inode t n none other = ap is_directory_inode (sym none)

module _ (t : Tree) (well : IsWellFormed t) (n : ℕ) where
  module _ (names : DirectoriesHaveOneName) (holders : HoldersAreLiveDirectories) where
    pub no_parent : None ≡ option_map (λ (place : Target). place.0) (entry_of t n Parent) → n ≢ 1 → is_live_directory t n ≡ false
    no_parent none other = by_live (is_live_directory t n) refl
      where
        by_live : (b : Bool) → is_live_directory t n ≡ b → is_live_directory t n ≡ false
        by_live false e = e
        by_live true e = let held = held_above t well n names holders other e in let clash : ◌≡◌ {A = Option ℕ} None (Some held.dir) = none ∙ held.above in absurd cc

    pub none_there : (up : ℕ) → Some up ≡ option_map (λ (place : Target). place.0) (entry_of t n Parent) → ((name : List ℕ) → entry_number t (spot_at up name) ≢ Some n) → n ≢ 1 → is_live_directory t n ≡ false
    none_there up is none other = by_live (is_live_directory t n) refl
      where
        by_live : (b : Bool) → is_live_directory t n ≡ b → is_live_directory t n ≡ false
        by_live false e = e
        by_live true e =
            let held = held_above t well n names holders other e in
            let both : Some held.dir ≡ Some up = sym held.above ∙ sym is in
            let same : held.dir ≡ up = cc in
            absurd (none held.name (subst (λ (d : ℕ). entry_number t (spot_at d held.name) ≡ Some n) same held.leads))

  module _ (dir : ℕ) (name : List ℕ) (found : entry_number t (spot_at dir name) ≡ Some n) where
    pub named_there : IsTrue (is_name name)
    named_there = (found_has (Stands t) t.entries well.entries (spot_at dir name) n found).named

    pub alone_there : DirectoriesHaveOneName → NamesLeadToTheLiving → IsTrue (is_live_directory t n) → (spot : Spot) → entry_number t spot ≡ Some n → spot ≡ spot_at dir name
    alone_there names living live spot e =
        let one = (names t n well live (living t (spot_at dir name) n well found).not_root).named in
        one_spot n t.entries (omega (arith, one)) spot (spot_at dir name) e found

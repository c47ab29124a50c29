-- What a rename that isn't refused has found, and the tree that it leaves.
use Rattle.std.proofs.Common.{◌≡◌, ◌≢◌, ◌⊎◌, inl, inr, ℕ, zero, suc, ◌==◌, ◌&&◌, ◌||◌, not, List, [], ◌∷◌, Bool, true, false, cond, Option, Some, None, Ok, Err, is_some, IsTrue, refl, ap, sym, ◌∙◌, length, if◌then◌else◌}
use Rattle.std.specs.List.{AllByRecursion}
use Rattle.std.specs.Ordering.{eq_by_cmp, is_eq}
use Rattle.std.specs.Cmp.{tied_itself}
use Rattle.std.specs.FinMap.Entries.{find as lookup}
use Rattle.dc_names.specs.Laws.{PartsAreNamesOrDots}
use Rattle.dc_names.specs.declared.refusal.Refusal.TheVariants.{NotFound, Busy, Exists, NotDirectory, IsDirectory, Invalid, NotEmpty}
use Rattle.dc_names.specs.Bytes.{is_empty, is_name}
use Rattle.dc_plain.specs.Facts.{Target}
use Rattle.dc_plain.specs.Facts.Label.{Entry}
use Rattle.dc_plain.specs.Resolution.{is_directory}
use Rattle.dc_plain.specs.Trees.{Tree, Spot, spot_cmp, entry_number, entry_of, holder_of, names_in, if_held, is_live_directory, is_directory_inode, without_number, without_spot}
use Rattle.dc_plain.specs.Requests.{Answer}
use Rattle.dc_plain.specs.Requests.Answer.{Nothing}
use Rattle.dc_names.specs.Lasts.{name_or_each}
use Rattle.dc_plain.specs.Refusals.{◌>>=◌, refuse, place_on, path_or_fault, present}
use Rattle.dc_plain.specs.Effects.{with_entry_for, without_entry, without_entry_alone, without_there, tree_swapped}
use Rattle.dc_plain.specs.Conditions.{CanSwap}
use Rattle.dc_plain.specs.Operations.{Change, move_name, swap_names, rename, is_beneath, replaceable, same_inode}
use Rattle.dc_plain.specs.Places.{Where}
use Rattle.dc_plain.specs.Spots.{spot_at}
use Rattle.dc_plain.specs.declared.call.Flags.{Flags}
use Rattle.dc_names.specs.Paths.{Path}
use Rattle.dc_plain.specs.IsWellFormed.{IsWellFormed}
use Rattle.dc_plain.proofs.Made.{spots_total, free_spot}
use Rattle.dc_plain.proofs.Takes.{lookup-take}
use Rattle.dc_plain.proofs.SameFacts.{same_spot}
use Rattle.dc_plain.proofs.Holders.{decided_not}
use Rattle.dc_plain.proofs.Removed.{either_left, inode-left, IsUnentered, without_entry-IsWellFormed, unentered_node, unentered_directory, holder_left, not_holder}
use Rattle.dc_plain.proofs.Moved.{IsReady, moved_to}
use Rattle.dc_plain.proofs.Chains.{after, after_test, named_each, is_there, left_with}
use Rattle.dc_plain.proofs.Spotted.{place_live, path_named}
use Rattle.dc_plain.proofs.Found.{Leads, Ends_in, entry-leads, spot_of}

same_held : (o : Option ℕ) (f g : ℕ → Bool) → ((k : ℕ) → o ≡ Some k → f k ≡ g k) → if_held o f ≡ if_held o g
same_held None f g so = refl
same_held (Some k) f g so = so k refl

-- what is met on the way up stays the same if the holders do
is_beneath-kept : (P : ℕ → Type 0) (t u : Tree) → ((d up : ℕ) → P d → holder_of t d ≡ Some up → P up) → ((d : ℕ) → P d → holder_of u d ≡ holder_of t d)
    → (steps d n : ℕ) → P d → is_beneath steps u d n ≡ is_beneath steps t d n
is_beneath-kept P t u closed same zero d n here = refl
is_beneath-kept P t u closed same (suc steps) d n here =
    ap (λ b. d == n || not (d == 1) && b) (ap (λ o. if_held o (λ up. is_beneath steps u up n)) (same d here)
    ∙ same_held (holder_of t d) (λ up. is_beneath steps u up n) (λ up. is_beneath steps t up n) (λ up e. is_beneath-kept P t u closed same steps up n (closed d up here e)))

-- if no entry is a directory's, none of its names is found
All-key : (n : ℕ) (spot : Spot) (es : List (Spot × ℕ)) → AllByRecursion (λ (e : Spot × ℕ). e.0.dir ≢ n) es → (v : ℕ) → lookup spot_cmp spot es ≡ Some v → spot.dir ≢ n
All-key n spot [] all v e = absurd cc
All-key n spot (x ∷ xs) all v e =
    elim (eq_by_cmp spot_cmp spot x.0) as (λ b. eq_by_cmp spot_cmp spot x.0 ≡ b → cond b (Some x.1) (lookup spot_cmp spot xs) ≡ Some v → spot.dir ≢ n) [
      | true ↦ λ is found. λ here. all.0 (sym (ap (λ (s : Spot). s.dir) (same_spot spot x.0 is)) ∙ here)
      | false ↦ λ is found. All-key n spot xs all.1 v found
    ] refl e

-- two names of two inodes are two
other_spot : (t : Tree) (a b : Spot) (m n : ℕ) → entry_number t a ≡ Some m → entry_number t b ≡ Some n → m ≢ n → (o : Bool) → eq_by_cmp spot_cmp a b ≡ o → o ≡ false
other_spot t a b m n is_m is_n apart false e = refl
other_spot t a b m n is_m is_n apart true e =
    let same = same_spot a b e in
    let both : Some m ≡ Some n = sym is_m ∙ ap (entry_number t) same ∙ is_n in
    let one : m ≡ n = cc in absurd (apart one)

-- a directory that isn't above where it is to go
abbrev IsApart : Tree → ℕ → Target → Type 0
IsApart t to moved = (is_directory moved && is_beneath (length t.inodes) t to moved.0) ≡ false

apart_by : (dir beneath live : Bool) → dir ≡ live → (dir && beneath) ≡ false → live ≡ true → beneath ≡ false
apart_by true beneath live is e l = e
apart_by false beneath live is e l = cc

module _ (t : Tree) (from : ℕ) (old : List ℕ) (to : ℕ) (new : List ℕ) (moved : Target) (well : IsWellFormed t) (source : Leads t from old moved) (held : IsTrue (is_live_directory t to))
    (named : IsTrue (is_name new)) (apart : IsApart t to moved) where
  not_beneath : IsTrue (is_live_directory t moved.0) → is_beneath (length t.inodes) t to moved.0 ≡ false
  not_beneath live = apart_by (is_directory moved) (is_beneath (length t.inodes) t to moved.0) (is_live_directory t moved.0) (source.kind ∙ sym (ap is_directory_inode source.lives)) apart live

  pub ready_alone : entry_of t to (Entry new) ≡ None → IsReady t from old to new moved.0
  ready_alone none = record {
    well = well;
    source = source.target;
    free = free_spot t to new well (ap is_some none);
    held = held;
    named = named;
    apart = λ live. (length t.inodes, not_beneath live);
  }

  module _ (there : Target) (target : entry_number t (record { dir = to; name = new }) ≡ Some there.0) (unentered : IsUnentered t there.0) (other : moved.0 ≢ there.0) where
    not_there : to ≢ there.0
    not_there = All-key there.0 (record { dir = to; name = new }) t.entries unentered there.0 target

    free_now : entry_number (without_entry t to new there.0) (record { dir = to; name = new }) ≡ None
    free_now =
        let gone : lookup spot_cmp (record { dir = to; name = new }) (without_spot (record { dir = to; name = new }) t.entries) ≡ None =
        lookup-take spot_cmp spots_total (record { dir = to; name = new }) (record { dir = to; name = new }) t.entries
        ∙ ap (λ o. cond (not (is_eq o)) (entry_number t (record { dir = to; name = new })) None) (tied_itself spots_total (record { dir = to; name = new })) in
        either_left (λ u. entry_number u (record { dir = to; name = new }) ≡ None) t to new there.0 gone gone

    source_now : entry_number (without_entry t to new there.0) (record { dir = from; name = old }) ≡ Some moved.0
    source_now =
        let apart_spots = other_spot t (record { dir = to; name = new }) (record { dir = from; name = old }) there.0 moved.0 target source.target (λ same. other (sym same)) _ refl in
        let stays : lookup spot_cmp (record { dir = from; name = old }) (without_spot (record { dir = to; name = new }) t.entries) ≡ Some moved.0 =
        lookup-take spot_cmp spots_total (record { dir = to; name = new }) (record { dir = from; name = old }) t.entries
        ∙ ap (λ b. cond (not b) (entry_number t (record { dir = from; name = old })) None) apart_spots ∙ source.target in
        either_left (λ u. entry_number u (record { dir = from; name = old }) ≡ Some moved.0) t to new there.0 stays stays

    held_now : IsTrue (is_live_directory (without_entry t to new there.0) to)
    held_now = ap is_directory_inode (inode-left t to new there.0 to (λ same. not_there (sym same))) ∙ held

    beneath_now : is_beneath (length t.inodes) (without_entry t to new there.0) to moved.0 ≡ is_beneath (length t.inodes) t to moved.0
    beneath_now = is_beneath-kept (λ k. there.0 ≢ k) t (without_entry t to new there.0) (λ d up here e. not_holder t to new there.0 well target unentered t.inodes d up e)
        (λ d here. either_left (λ u. holder_of u d ≡ holder_of t d) t to new there.0
        (holder_left t to new there.0 well target unentered (without_number there.0 t.inodes) d here) (holder_left t to new there.0 well target unentered t.inodes d here))
        (length t.inodes) to moved.0 (λ same. not_there (sym same))

    pub ready_after : IsReady (without_entry t to new there.0) from old to new moved.0
    ready_after = record {
      well = without_entry-IsWellFormed t to new there.0 well target unentered;
      source = source_now;
      free = free_now;
      held = held_now;
      named = named;
      apart = λ live. (length t.inodes, beneath_now ∙ not_beneath (sym (ap is_directory_inode (inode-left t to new there.0 moved.0 (λ same. other (sym same)))) ∙ live));
    }

-- what gives way is empty, or no directory
gives_way : (moved there empty : Bool) (b : Bool) → (if moved then (if not there then Err NotDirectory else refuse (not empty) NotEmpty) else refuse there IsDirectory) ≡ Ok b → (there ≡ false) ⊎ (empty ≡ true)
gives_way true true true b e = inr refl
gives_way true true false b e = absurd cc
gives_way true false empty b e = absurd cc
gives_way false true empty b e = absurd cc
gives_way false false empty b e = inl refl

way-unentered : (t : Tree) (d : ℕ) (name : List ℕ) (moved there : Target) (b : Bool) → IsWellFormed t → Leads t d name there → replaceable t moved (Some there) ≡ Ok b → IsUnentered t there.0
way-unentered t d name moved there b well leads e = elim (gives_way (is_directory moved) (is_directory there) (is_empty (names_in t there.0)) b e) [
  | inl node ↦ unentered_node t there.0 well (ap is_directory_inode leads.lives ∙ sym leads.kind ∙ node)
  | inr empty ↦ unentered_directory t there.0 empty
]

-- the tree as the move finds it
ready : (t : Tree) (from : ℕ) (old : List ℕ) (to : ℕ) (new : List ℕ) (moved : Target) (b : Bool) → IsWellFormed t → Leads t from old moved → IsTrue (is_live_directory t to) → IsTrue (is_name new)
    → IsApart t to moved → (there : Option Target) → entry_of t to (Entry new) ≡ there → same_inode moved there ≡ false → replaceable t moved there ≡ Ok b → IsReady (without_there t to new there) from old to new moved.0
ready t from old to new moved b well source held named apart None is other may = ready_alone t from old to new moved well source held named apart is
ready t from old to new moved b well source held named apart (Some there) is other may =
    let leads = entry-leads t to new there is in
    ready_after t from old to new moved well source held named apart there leads.target (way-unentered t to new moved there b well leads may) (decided_not moved.0 there.0 other)

-- what a rename has found, and the tree that it leaves
pub record Moves (t : Tree) (base : ℕ) (old new : List ℕ) (flags : Flags) (u : Tree) : Type 0 where
  pub moves : flags.exchange ≡ false
  pub from : ℕ
  pub old_name : List ℕ
  pub old_ends : Ends_in t base old from old_name
  pub to : ℕ
  pub new_name : List ℕ
  pub new_ends : Ends_in t base new to new_name
  pub moved : Target
  pub source : Leads t from old_name moved
  pub there : Option Target
  pub at : entry_of t to (Entry new_name) ≡ there
  pub apart : same_inode moved there ≡ false
  pub unentered : (p : Target) → there ≡ Some p → IsUnentered t p.0
  pub ready : IsReady (without_there t to new_name there) from old_name to new_name moved.0
  pub left : moved_to (without_there t to new_name there) from old_name to new_name moved.0 ≡ u

-- what an exchange has found, and the tree that it leaves
pub record Swaps (t : Tree) (base : ℕ) (old new : List ℕ) (flags : Flags) (u : Tree) : Type 0 where
  pub swaps : flags.exchange ≡ true
  pub from : ℕ
  pub old_name : List ℕ
  pub old_ends : Ends_in t base old from old_name
  pub to : ℕ
  pub new_name : List ℕ
  pub new_ends : Ends_in t base new to new_name
  pub moved : Target
  pub source : Leads t from old_name moved
  pub there : Target
  pub at : Leads t to new_name there
  pub can : CanSwap t (spot_at from old_name) moved.0 (spot_at to new_name) there.0
  pub left : tree_swapped t (spot_at from old_name) moved.0 (spot_at to new_name) there.0 ≡ u

-- both names lead to one inode
pub record Stays (t : Tree) (base : ℕ) (old new : List ℕ) (u : Tree) : Type 0 where
  pub from : ℕ
  pub old_name : List ℕ
  pub old_ends : Ends_in t base old from old_name
  pub to : ℕ
  pub new_name : List ℕ
  pub new_ends : Ends_in t base new to new_name
  pub moved : Target
  pub source : Leads t from old_name moved
  pub there : Target
  pub at : Leads t to new_name there
  pub same : (moved.0 == there.0) ≡ true
  pub left : t ≡ u

-- a rename that isn't refused moves a name, swaps two, or leaves all as it is
pub data Renames (t : Tree) (base : ℕ) (old new : List ℕ) (flags : Flags) (u : Tree) : Type 0 where
  Moving : Moves t base old new flags u → Renames t base old new flags u
  Swapping : Swaps t base old new flags u → Renames t base old new flags u
  Staying : Stays t base old new u → Renames t base old new flags u

-- the place and the name in which a path ends, with the name's path
record Ending (t : Tree) (base : ℕ) (text : List ℕ) (at : Where) (name : List ℕ) : Type 0 where
  ends : Ends_in t base text at.dir name
  held : IsTrue (is_live_directory t at.dir)
  named : IsTrue (is_name name)

module _ (t : Tree) (base : ℕ) (old new : List ℕ) (flags : Flags) (done : Answer × Tree) (well : IsWellFormed t) (from to : Where) (old_name new_name : List ℕ)
    (old_end : Ending t base old from old_name) (new_end : Ending t base new to new_name) (moved : Target) (source : Leads t from.dir old_name moved) where
  stays : (there : Target) → Leads t to.dir new_name there → (moved.0 == there.0) ≡ true → ◌≡◌ {A = Change} (Ok (Nothing, t)) (Ok done) → Renames t base old new flags done.1
  stays there at same e = Staying (record {
    from = from.dir;
    old_name = old_name;
    old_ends = old_end.ends;
    to = to.dir;
    new_name = new_name;
    new_ends = new_end.ends;
    moved = moved;
    source = source;
    there = there;
    at = at;
    same = same;
    left = left_with (λ u. t ≡ u) Nothing t done e refl;
  })

  stays_there : (there : Option Target) → entry_of t to.dir (Entry new_name) ≡ there → same_inode moved there ≡ true → ◌≡◌ {A = Change} (Ok (Nothing, t)) (Ok done) → Renames t base old new flags done.1
  stays_there None at same e = absurd cc
  stays_there (Some there) at same e = stays there (entry-leads t to.dir new_name there at) same e

  moves : flags.exchange ≡ false → move_name t from old_name to new_name moved flags.no_replace ≡ Ok done → Renames t base old new flags done.1
  moves plain e =
      after_test (not (is_directory moved) && (from.slash || to.slash)) NotDirectory _ done e (λ ends e.
      let there = entry_of t to.dir (Entry new_name) in
      after_test (flags.no_replace && is_some there) Exists _ done e (λ free e.
      elim (same_inode moved there) as (λ b. same_inode moved there ≡ b → (if b then Ok (Nothing, t) else
      refuse (is_directory moved && is_beneath (length t.inodes) t to.dir moved.0) Invalid >>= λ apart. replaceable t moved there >>= λ may.
      Ok (Nothing, with_entry_for (without_entry_alone (without_there t to.dir new_name there) from.dir old_name) to.dir new_name moved.0)) ≡ Ok done → Renames t base old new flags done.1) [
        | true ↦ λ same e. stays_there there refl same e
        | false ↦ λ other e.
            after_test (is_directory moved && is_beneath (length t.inodes) t to.dir moved.0) Invalid _ done e (λ apart e.
            after (replaceable t moved there) _ done e (λ may may_is e. Moving (record {
              moves = plain;
              from = from.dir;
              old_name = old_name;
              old_ends = old_end.ends;
              to = to.dir;
              new_name = new_name;
              new_ends = new_end.ends;
              moved = moved;
              source = source;
              there = there;
              at = refl;
              apart = other;
              unentered = λ p is. way-unentered t to.dir new_name moved p may well (entry-leads t to.dir new_name p is) (ap (replaceable t moved) (sym is) ∙ may_is);
              ready = ready t from.dir old_name to.dir new_name moved may well source new_end.held new_end.named apart there refl other may_is;
              left = left_with (λ u. moved_to (without_there t to.dir new_name there) from.dir old_name to.dir new_name moved.0 ≡ u) Nothing
                  (moved_to (without_there t to.dir new_name there) from.dir old_name to.dir new_name moved.0) done e refl;
            })))
      ] refl e))

  swaps : flags.exchange ≡ true → swap_names t from old_name to new_name moved ≡ Ok done → Renames t base old new flags done.1
  swaps exchange e =
      after (present NotFound (entry_of t to.dir (Entry new_name))) _ done e (λ there found e.
      let at = entry-leads t to.dir new_name there (is_there NotFound _ there found) in
      after_test (not (is_directory moved) && from.slash) NotDirectory _ done e (λ old_slash e.
      after_test (not (is_directory there) && to.slash) NotDirectory _ done e (λ new_slash e.
      elim (moved.0 == there.0) as (λ b. (moved.0 == there.0) ≡ b → (if b then Ok (Nothing, t) else
      refuse (is_directory moved && is_beneath (length t.inodes) t to.dir moved.0) Invalid >>= λ apart.
      refuse (is_directory there && is_beneath (length t.inodes) t from.dir there.0) Invalid >>= λ apart_too.
      Ok (Nothing, tree_swapped t (spot_at from.dir old_name) moved.0 (spot_at to.dir new_name) there.0)) ≡ Ok done → Renames t base old new flags done.1) [
        | true ↦ λ same e. stays there at same e
        | false ↦ λ other e.
            after_test (is_directory moved && is_beneath (length t.inodes) t to.dir moved.0) Invalid _ done e (λ apart e.
            after_test (is_directory there && is_beneath (length t.inodes) t from.dir there.0) Invalid _ done e (λ apart_too e. Swapping (record {
              swaps = exchange;
              from = from.dir;
              old_name = old_name;
              old_ends = old_end.ends;
              to = to.dir;
              new_name = new_name;
              new_ends = new_end.ends;
              moved = moved;
              source = source;
              there = there;
              at = at;
              can = record {
                first = source.target;
                second = at.target;
                two = decided_not moved.0 there.0 other;
                apart = ap (λ b. b && is_beneath (length t.inodes) t to.dir moved.0) (ap is_directory_inode source.lives ∙ sym source.kind) ∙ apart;
                apart_too = ap (λ b. b && is_beneath (length t.inodes) t from.dir there.0) (ap is_directory_inode at.lives ∙ sym at.kind) ∙ apart_too;
              };
              left = left_with (λ u. tree_swapped t (spot_at from.dir old_name) moved.0 (spot_at to.dir new_name) there.0 ≡ u) Nothing
                  (tree_swapped t (spot_at from.dir old_name) moved.0 (spot_at to.dir new_name) there.0) done e refl;
            })))
      ] refl e)))

  by_flags : (b : Bool) → flags.exchange ≡ b → (if b then swap_names t from old_name to new_name moved else move_name t from old_name to new_name moved flags.no_replace) ≡ Ok done → Renames t base old new flags done.1
  by_flags true is e = swaps is e
  by_flags false is e = moves is e

pub renames : PartsAreNamesOrDots → (t : Tree) (base : ℕ) (old new : List ℕ) (flags : Flags) (done : Answer × Tree) → IsWellFormed t → rename t base old new flags ≡ Ok done → Renames t base old new flags done.1
renames parts t base old new flags done well e =
    after_test (flags.no_replace && flags.exchange) Invalid _ done e (λ one e.
    after (path_or_fault old) _ done e (λ old_path old_good e.
    after (path_or_fault new) _ done e (λ new_path new_good e.
    after (place_on t base old_path) _ done e (λ from from_is e.
    after (place_on t base new_path) _ done e (λ to to_is e.
    after (name_or_each Busy Invalid Invalid from.last) _ done e (λ old_name old_is e.
    after (name_or_each Busy Invalid Invalid to.last) _ done e (λ new_name new_is e.
    after (present NotFound (entry_of t from.dir (Entry old_name))) _ done e (λ moved found e.
    by_flags t base old new flags done well from to old_name new_name
    (end_of old old_path from old_name old_good from_is old_is) (end_of new new_path to new_name new_good to_is new_is)
    moved (entry-leads t from.dir old_name moved (is_there NotFound _ moved found)) flags.exchange refl e))))))))
  where
    end_of : (text : List ℕ) (path : Path) (at : Where) (name : List ℕ) → path_or_fault text ≡ Ok path → place_on t base path ≡ Ok at → name_or_each Busy Invalid Invalid at.last ≡ Ok name → Ending t base text at name
    end_of text path at name good is last_is = record {
      ends = record { at = at; spot = spot_of t base text path at good is; dir = refl; last = named_each Busy Invalid Invalid at.last name last_is };
      held = place_live t base path at well.root_is is;
      named = path_named parts t base text path at name good is (named_each Busy Invalid Invalid at.last name last_is);
    }

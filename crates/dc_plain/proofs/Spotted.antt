-- Where the last part of a path is to be looked up: a live directory, and a name.
use Rattle.std.proofs.Common.{◌≡◌, ℕ, ◌-◌, zero, suc, ◌==◌, ◌||◌, not, List, [], ◌∷◌, Bool, true, false, cond, Option, Some, None, Result, Ok, Err, IsTrue, refl, ap, ◌∙◌, subst, length, take, slice_get, option_map, option_and_then}
use Rattle.dc_names.specs.Laws.{IsNameOrDots, PartsAreNamesOrDots}
use Rattle.dc_names.specs.declared.refusal.Refusal.{Refusal}
use Rattle.dc_names.specs.declared.limits.TheConstants.{MOST_LINKS}
use Rattle.dc_names.specs.Bytes.{is_name}
use Rattle.dc_names.specs.Paths.Part.{Name as PartName, Dot, DotDot}
use Rattle.dc_names.specs.declared.fault.TextFault.{TextFault}
use Rattle.std.specs.List.{AllByRecursion}
use Rattle.dc_names.specs.Paths.{Part, Path, path_in, fault_of, path_of}
use Rattle.dc_names.specs.Refusals.{refusal_of}
use Rattle.dc_names.specs.declared.kind.Kind.TheVariants.{Dir, File, Link}
use Rattle.dc_plain.specs.declared.call.Follow.{Follow}
use Rattle.dc_plain.specs.declared.call.Follow.TheVariants as follow
use Rattle.dc_plain.specs.Facts.{Target}
use Rattle.dc_plain.specs.Facts.Label.{Parent}
use Rattle.dc_plain.specs.Resolution.{Outcome, root, is_directory, resolve, settled_walk}
use Rattle.dc_plain.specs.Resolution.Outcome.{Found, Refused}
use Rattle.dc_plain.specs.Places.{Where, start, with_start, walk, front_of, placed_by}
use Rattle.dc_names.specs.Lasts.Last.{Name, Root}
use Rattle.dc_names.specs.Lasts.{last_part}
use Rattle.dc_plain.specs.Refusals.{where_on, place_on, path_or_fault, where_of, walk_on, ended}
use Rattle.dc_plain.specs.Trees.{Tree, Inode, inode_of, target_at, kind_of, entry_of, told_of, is_live_directory, is_directory_inode, holder_of}
use Rattle.dc_plain.specs.Trees.Inode.{Directory, Regular, Symbolic}
use Rattle.dc_plain.proofs.Live.{Stands_at, Ends, resolve_stands, root_stands}
use Rattle.dc_plain.proofs.Made.{is_directory_in}
use Rattle.dc_plain.proofs.Chains.{after}

-- a place that stands as a directory is a live directory
directory_by : (n : ℕ) (o : Option Inode) (q : Target) → option_map (λ inode. (n, kind_of inode)) o ≡ Some q → is_directory q ≡ true → is_directory_inode o ≡ true
directory_by n None q e is = cc
directory_by n (Some Directory) q e is = refl
directory_by n (Some Regular) q e is = let same : (n, File) ≡ q = cc in ap is_directory same ∙ is
directory_by n (Some (Symbolic text)) q e is = let same : (n, Link) ≡ q = cc in ap is_directory same ∙ is

pub live_at : (t : Tree) (q : Target) → Stands_at t q → is_directory q ≡ true → IsTrue (is_live_directory t q.0)
live_at t q stands is = directory_by q.0 (inode_of t q.0) q stands is

-- where a path begins, a directory lives
start_stands : (t : Tree) → inode_of t 1 ≡ Some Directory → (base : ℕ) (path : Path) (q : Target) → start (told_of t) base path ≡ Some (Some q) → Stands_at t q
start_stands t is_root base path q e =
    elim (path.absolute || base == 1) as (λ b. cond b (Some (Some root)) (Some (option_map (λ up. (base, Dir)) (entry_of t base Parent))) ≡ Some (Some q) → Stands_at t q) [
      | true ↦ λ is. let same : root ≡ q = cc in subst (Stands_at t) same (root_stands t is_root)
      | false ↦ λ is. by_live (is_live_directory t base) refl is
    ] e
  where
    by_live : (b : Bool) → is_live_directory t base ≡ b
        → Some (option_map (λ (up : Target). (base, Dir)) (cond (not b) None (cond (base == 1) (Some root) (option_and_then (target_at t) (holder_of t base))))) ≡ Some (Some q) → Stands_at t q
    by_live false live is = cc
    by_live true live is =
        elim (cond (base == 1) (Some root) (option_and_then (target_at t) (holder_of t base))) as (λ o. Some (option_map (λ (up : Target). (base, Dir)) o) ≡ Some (Some q) → Stands_at t q) [
          | None ↦ λ is. cc
          | Some up ↦ λ is. let same : (base, Dir) ≡ q = cc in subst (Stands_at t) same (rw (is_directory_in (inode_of t base) live) refl)
        ] is

front_stands : (t : Tree) → inode_of t 1 ≡ Some Directory → (base : ℕ) (path : Path) (q : Target) → front_of (told_of t) base path ≡ Some (Found q) → Ends t follow.Dir q
front_stands t is_root base path q e = by_start (start (told_of t) base path) refl e
  where
    by_start : (o : Option (Option Target)) → start (told_of t) base path ≡ o
        → with_start o (λ place. resolve (told_of t) follow.Dir MOST_LINKS place (take (length path.parts - 1) path.parts) false) ≡ Some (Found q) → Ends t follow.Dir q
    by_start None is e' = cc
    by_start (Some None) is e' = absurd cc
    by_start (Some (Some p)) is e' =
        resolve_stands t is_root follow.Dir MOST_LINKS p (take (length path.parts - 1) path.parts) false q (start_stands t is_root base path p is) e'

pub place_live : (t : Tree) (base : ℕ) (path : Path) (at : Where) → inode_of t 1 ≡ Some Directory → place_on t base path ≡ Ok at → IsTrue (is_live_directory t at.dir)
place_live t base path at is_root e =
    by_front (slice_get path.parts (length path.parts - 1)) (front_of (told_of t) base path) refl e
  where
    by_front : (last : Option Part) (front : Option Outcome) → front_of (told_of t) base path ≡ front → where_of (placed_by last path.slash front) ≡ Ok at → IsTrue (is_live_directory t at.dir)
    by_front None front is e' = let one : 1 ≡ at.dir = cc in subst (λ d. IsTrue (is_live_directory t d)) one (rw is_root refl)
    by_front (Some last) None is e' = absurd cc
    by_front (Some last) (Some (Refused refusal)) is e' = absurd cc
    by_front (Some last) (Some (Found q)) is e' =
        let ends = front_stands t is_root base path q is in
        let same : q.0 ≡ at.dir = cc in
        subst (λ d. IsTrue (is_live_directory t d)) same (live_at t q ends.0 (ends.1 refl))

pub spot_live : (t : Tree) (base : ℕ) (text : List ℕ) (at : Where) → inode_of t 1 ≡ Some Directory → where_on t base text ≡ Ok at → IsTrue (is_live_directory t at.dir)
spot_live t base text at is_root e = after (path_or_fault text) _ at e (λ path good is. place_live t base path at is_root is)

-- where a text leads, something lives
found_by : (o : Option Outcome) (q : Target) → ended (settled_walk o) ≡ Ok q → o ≡ Some (Found q)
found_by None q e = absurd cc
found_by (Some (Found p)) q e = cc
found_by (Some (Refused refusal)) q e = absurd cc

pub walk_stands : (t : Tree) → inode_of t 1 ≡ Some Directory → (base : ℕ) (text : List ℕ) (how : Follow) (q : Target) → walk_on t base text how ≡ Ok q → target_at t q.0 ≡ Some q
walk_stands t is_root base text how q e = after (path_or_fault text) _ q e (λ path good is. by_start path (start (told_of t) base path) refl (found_by (walk (told_of t) base path how) q is))
  where
    by_start : (path : Path) (o : Option (Option Target)) → start (told_of t) base path ≡ o
        → with_start o (λ place. resolve (told_of t) how MOST_LINKS place path.parts path.slash) ≡ Some (Found q) → target_at t q.0 ≡ Some q
    by_start path None is e' = cc
    by_start path (Some None) is e' = absurd cc
    by_start path (Some (Some p)) is e' = (resolve_stands t is_root how MOST_LINKS p path.parts path.slash q (start_stands t is_root base path p is) e').0

-- a part of a path that is found by its place is a name, dot or dot-dot
All-get : {X : Type 0} (P : X → Type 0) (xs : List X) (i : ℕ) (x : X) → AllByRecursion P xs → slice_get xs i ≡ Some x → P x
All-get P [] i x all e = cc
All-get P (y ∷ ys) zero x all e = let same : y ≡ x = cc in subst P same all.0
All-get P (y ∷ ys) (suc i) x all e = All-get P ys i x all.1 e

last_named : (part : Part) (name : List ℕ) → last_part part ≡ Name name → IsNameOrDots part → IsTrue (is_name name)
last_named (PartName other) name e is = let same : other ≡ name = cc in subst (λ n. IsTrue (is_name n)) same is
last_named Dot name e is = absurd cc
last_named DotDot name e is = absurd cc

named_by : (last : Option Part) (slash : Bool) (front : Option Outcome) (at : Where) (name : List ℕ) → ((part : Part) → last ≡ Some part → IsNameOrDots part)
    → where_of (placed_by last slash front) ≡ Ok at → at.last ≡ Name name → IsTrue (is_name name)
named_by None slash front at name so e is = let root_last : Root ≡ at.last = cc in absurd cc
named_by (Some last) slash None at name so e is = absurd cc
named_by (Some last) slash (Some (Refused refusal)) at name so e is = absurd cc
named_by (Some last) slash (Some (Found q)) at name so e is = let same : last_part last ≡ at.last = cc in last_named last name (same ∙ is) (so last refl)

-- a text with a path has no fault
pub path_is : (r : Result Path TextFault) (path : Path) → ◌≡◌ {A = Result Path Refusal} (elim r [ Ok path ↦ Ok path | Err fault ↦ Err (refusal_of fault) ]) (Ok path) → r ≡ Ok path
path_is (Ok other) path e = cc
path_is (Err fault) path e = absurd cc

no_fault : (o : Option TextFault) (text : List ℕ) (path : Path) → ◌≡◌ {A = Result Path TextFault} (elim o [ None ↦ Ok (path_in text) | Some fault ↦ Err fault ]) (Ok path) → (o ≡ None) × (path_in text ≡ path)
no_fault None text path e = (refl, cc)
no_fault (Some fault) text path e = absurd cc

pub sound_path : (text : List ℕ) (path : Path) → path_or_fault text ≡ Ok path → (fault_of text ≡ None) × (path_in text ≡ path)
sound_path text path e = no_fault (fault_of text) text path (path_is (path_of text) path e)

pub path_named : PartsAreNamesOrDots → (t : Tree) (base : ℕ) (text : List ℕ) (path : Path) (at : Where) (name : List ℕ) → path_or_fault text ≡ Ok path → place_on t base path ≡ Ok at → at.last ≡ Name name → IsTrue (is_name name)
path_named parts t base text path at name good e is =
    let parsed = sound_path text path good in
    let whole : AllByRecursion IsNameOrDots path.parts = subst (λ (p : Path). AllByRecursion IsNameOrDots p.parts) parsed.1 (parts text parsed.0) in
    named_by (slice_get path.parts (length path.parts - 1)) path.slash (front_of (told_of t) base path) at name (λ part. All-get IsNameOrDots path.parts (length path.parts - 1) part whole) e is

pub spot_named : PartsAreNamesOrDots → (t : Tree) (base : ℕ) (text : List ℕ) (at : Where) (name : List ℕ) → where_on t base text ≡ Ok at → at.last ≡ Name name → IsTrue (is_name name)
spot_named parts t base text at name e is = after (path_or_fault text) _ at e (λ path good placed. path_named parts t base text path at name good placed is)

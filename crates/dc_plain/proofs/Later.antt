-- An outcome stays as it is when more is told.
use Rattle.std.proofs.Common.{◌≡◌, ℕ, zero, suc, List, [], ◌∷◌, ◌++◌, ◌-◌, ◌==◌, ◌&&◌, ◌||◌, not, Bool, true, false, cond, Option, Some, None, refl, option_map, if◌then◌else◌, length, take, slice_get}
use Rattle.dc_names.specs.declared.refusal.Refusal.TheVariants.{TooManyLinks}
use Rattle.dc_names.specs.declared.limits.TheConstants.{MOST_LINKS}
use Rattle.dc_names.specs.Bytes.{is_empty}
use Rattle.dc_names.specs.Paths.{Part, Path, path_in}
use Rattle.dc_names.specs.declared.kind.Kind.TheVariants.{Dir}
use Rattle.dc_plain.specs.declared.call.Follow.{Follow}
use Rattle.dc_plain.specs.declared.call.Follow.TheVariants as follow
use Rattle.dc_plain.specs.Facts.{Target, Teller}
use Rattle.dc_plain.specs.Facts.Label.{Parent}
use Rattle.dc_plain.specs.Resolution.{Outcome, Met, root, at_part, with_met, with_text, over_parts, resolve, keeps_link}
use Rattle.dc_plain.specs.Resolution.Outcome.{Found, Refused}
use Rattle.dc_plain.specs.Resolution.Met.{Goes, Stops, Meets}
use Rattle.dc_plain.specs.Places.{start, with_start, walk, front_of, place, placed_by}
use Rattle.dc_plain.specs.Tellers.{Extends}
use Rattle.dc_plain.proofs.Extensions.{at_part-later}

-- what has an outcome in the first has it in the second
abbrev Stays : {X : Type 0} → Option X → Option X → Type 0
Stays {X} before now = (x : X) → before ≡ Some x → now ≡ Some x

met-stays : (before now : Option Met) (go go' at_link at_link' : Target → Option Outcome) → Stays before now → ((p : Target) → Stays (go p) (go' p)) → ((p : Target) → Stays (at_link p) (at_link' p))
    → Stays (with_met before go at_link) (with_met now go' at_link')
met-stays None now go go' at_link at_link' told goes links o e = cc
met-stays (Some (Goes p)) now go go' at_link at_link' told goes links o e = rw (told (Goes p) refl) (goes p o e)
met-stays (Some (Stops n)) now go go' at_link at_link' told goes links o e = rw (told (Stops n) refl) e
met-stays (Some (Meets p)) now go go' at_link at_link' told goes links o e = rw (told (Meets p) refl) (links p o e)

either-stays : (b : Bool) (outcome : Outcome) (before now : Option Outcome) → Stays before now → Stays (if b then Some outcome else before) (if b then Some outcome else now)
either-stays true outcome before now so o e = e
either-stays false outcome before now so o e = so o e

over-stays : (a b : Teller) → Extends a b → (how : Follow) (follow_a follow_b : Target → ℕ → List Part → Bool → Option Outcome)
    → ((p : Target) (link : ℕ) (rest : List Part) (slash : Bool) → Stays (follow_a p link rest slash) (follow_b p link rest slash))
    → (parts : List Part) (p : Target) (slash : Bool) → Stays (over_parts a how follow_a p parts slash) (over_parts b how follow_b p parts slash)
over-stays a b more how follow_a follow_b so [] p slash o e = e
over-stays a b more how follow_a follow_b so (part ∷ rest) p slash o e =
    met-stays (at_part a p part) (at_part b p part) _ _ _ _ (at_part-later more p part) (λ next. over-stays a b more how follow_a follow_b so rest next slash)
    (λ link. either-stays (is_empty rest && not slash && keeps_link how) (Found link) _ _ (so p link.0 rest slash)) o e

text-stays : (before now : Option (List ℕ)) (go go' : List ℕ → Option Outcome) → Stays before now → ((text : List ℕ) → Stays (go text) (go' text)) → Stays (with_text before go) (with_text now go')
text-stays None now go go' told goes o e = cc
text-stays (Some text) now go go' told goes o e = rw (told text refl) (goes text o e)

pub resolve-stays : (a b : Teller) → Extends a b → (how : Follow) (links : ℕ) (from : Target) (parts : List Part) (slash : Bool) → Stays (resolve a how links from parts slash) (resolve b how links from parts slash)
unfolding resolve
resolve-stays a b more how zero from parts slash =
    over-stays a b more how (λ p link rest slash. Some (Refused TooManyLinks)) (λ p link rest slash. Some (Refused TooManyLinks)) (λ p link rest slash o e. e) parts from slash
resolve-stays a b more how (suc left) from parts slash =
    over-stays a b more how (λ p link rest slash. with_text (a.text link) (λ text.
    resolve a how left (if (path_in text).absolute then root else p) ((path_in text).parts ++ rest) (slash || is_empty rest && (path_in text).slash)))
    (λ p link rest slash. with_text (b.text link) (λ text.
    resolve b how left (if (path_in text).absolute then root else p) ((path_in text).parts ++ rest) (slash || is_empty rest && (path_in text).slash)))
    (λ p link rest slash. text-stays (a.text link) (b.text link) _ _ (more.text link)
    (λ text. resolve-stays a b more how left (if (path_in text).absolute then root else p) ((path_in text).parts ++ rest) (slash || is_empty rest && (path_in text).slash))) parts from slash

abbrev base_from : ℕ → Option (Option Target) → Option (Option Target)
base_from base up = option_map {U = Option Target} (option_map {U = Target} (λ (up : Target). (base, Dir))) up

start-by : (up up' : Option (Option Target)) (base : ℕ) → Stays up up' → Stays (base_from base up) (base_from base up')
start-by None up' base so x e = cc
start-by (Some found) up' base so x e = rw (so found refl) e

start-stays : (a b : Teller) → Extends a b → (base : ℕ) (path : Path) → Stays (start a base path) (start b base path)
start-stays a b more base path =
    elim (path.absolute || base == 1) as (λ t. Stays (cond t (Some (Some root)) (base_from base (a.entry base Parent))) (cond t (Some (Some root)) (base_from base (b.entry base Parent)))) [
      | true ↦ λ x e. e
      | false ↦ start-by (a.entry base Parent) (b.entry base Parent) base (more.entry base Parent)
    ]

from-start : (before now : Option (Option Target)) (go go' : Target → Option Outcome) → Stays before now → ((p : Target) → Stays (go p) (go' p)) → Stays (with_start before go) (with_start now go')
from-start None now go go' told goes o e = cc
from-start (Some None) now go go' told goes o e = rw (told None refl) e
from-start (Some (Some p)) now go go' told goes o e = rw (told (Some p) refl) (goes p o e)

pub walk-stays : (a b : Teller) → Extends a b → (base : ℕ) (path : Path) (how : Follow) → Stays (walk a base path how) (walk b base path how)
walk-stays a b more base path how = from-start (start a base path) (start b base path) _ _ (start-stays a b more base path) (λ p. resolve-stays a b more how MOST_LINKS p path.parts path.slash)

pub front-stays : (a b : Teller) → Extends a b → (base : ℕ) (path : Path) → Stays (front_of a base path) (front_of b base path)
front-stays a b more base path =
    from-start (start a base path) (start b base path) _ _ (start-stays a b more base path) (λ p. resolve-stays a b more follow.Dir MOST_LINKS p (take (length path.parts - 1) path.parts) false)

placed-stays : (last : Option Part) (slash : Bool) (before now : Option Outcome) → Stays before now → Stays (placed_by last slash before) (placed_by last slash now)
placed-stays None slash before now so x e = e
placed-stays (Some part) slash None now so x e = cc
placed-stays (Some part) slash (Some o) now so x e = rw (so o refl) e

pub place-stays : (a b : Teller) → Extends a b → (base : ℕ) (path : Path) → Stays (place a base path) (place b base path)
place-stays a b more base path = placed-stays (slice_get path.parts (length path.parts - 1)) path.slash (front_of a base path) (front_of b base path) (front-stays a b more base path)

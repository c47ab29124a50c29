-- Which refusals a resolution comes to, and that it stays as it is when more is told.
use Rattle.std.proofs.Common.{◌≡◌, ℕ, zero, suc, List, [], ◌∷◌, ◌++◌, ◌-◌, ◌==◌, ◌&&◌, ◌||◌, not, Bool, true, false, Option, Some, None, refl, arith, subst, if◌then◌else◌, length, take, slice_get}
use Rattle.dc_names.specs.declared.refusal.Refusal.{Refusal}
use Rattle.dc_names.specs.declared.refusal.Refusal.TheVariants.{NotFound, NotDirectory, TooManyLinks}
use Rattle.dc_names.specs.declared.limits.TheConstants.{MOST_LINKS}
use Rattle.std.specs.List.{Contains}
use Rattle.dc_names.specs.Bytes.{is_empty}
use Rattle.dc_names.specs.Paths.{Part, Path, path_in}
use Rattle.dc_names.specs.Paths.Part.{Name, Dot, DotDot}
use Rattle.dc_plain.specs.declared.call.Follow.{Follow}
use Rattle.dc_plain.specs.declared.call.Follow.TheVariants as follow
use Rattle.dc_plain.specs.Facts.{Target, Teller}
use Rattle.dc_plain.specs.Facts.Label.{Entry, Parent}
use Rattle.dc_plain.specs.Resolution.{Outcome, Met, root, is_directory, is_link, met_by, at_part, with_met, with_text, ending, over_parts, resolve, wants_directory, keeps_link}
use Rattle.dc_plain.specs.Resolution.Outcome.{Found, Refused}
use Rattle.dc_plain.specs.Resolution.Met.{Goes, Stops, Meets}
use Rattle.dc_plain.specs.Places.{start, with_start, walk, front_of, place, placed_by}
use Rattle.dc_plain.specs.Places.Placed.{Not}
use Rattle.dc_plain.specs.Laws.{walk_refusals}

missing : Contains walk_refusals NotFound
missing = (0, omega arith, refl)

no_directory : Contains walk_refusals NotDirectory
no_directory = (1, omega arith, refl)

too_many : Contains walk_refusals TooManyLinks
too_many = (2, omega arith, refl)

-- an outcome that is no refusal, or one of the list
abbrev pub Is_usual : Outcome → Type 0
Is_usual (Found q) = Unit {0}
Is_usual (Refused refusal) = Contains walk_refusals refusal

abbrev Is_usual_met : Met → Type 0
Is_usual_met (Goes q) = Unit {0}
Is_usual_met (Stops refusal) = Contains walk_refusals refusal
Is_usual_met (Meets q) = Unit {0}

usual_by : (told : Option (Option Target)) (met : Met) → met_by told ≡ Some met → Is_usual_met met
usual_by None met e = cc
usual_by (Some None) met e = let same : Stops NotFound ≡ met = cc in subst Is_usual_met same missing
usual_by (Some (Some q)) met e =
    elim (is_link q) as (λ b. Some (if b then Meets q else Goes q) ≡ Some met → Is_usual_met met) [
      | true ↦ λ is. let same : Meets q ≡ met = cc in subst Is_usual_met same tt
      | false ↦ λ is. let same : Goes q ≡ met = cc in subst Is_usual_met same tt
    ] e

usual_stop : (met : Met) → Some (Stops NotDirectory) ≡ Some met → Is_usual_met met
usual_stop met e = let same : Stops NotDirectory ≡ met = cc in subst Is_usual_met same no_directory

usual_going : (q : Target) (met : Met) → Some (Goes q) ≡ Some met → Is_usual_met met
usual_going q met e = let same : Goes q ≡ met = cc in subst Is_usual_met same tt

usual_part : (teller : Teller) (place : Target) (part : Part) (met : Met) → at_part teller place part ≡ Some met → Is_usual_met met
usual_part teller place part met e =
    elim (is_directory place) as (λ b. (if not b then Some (Stops NotDirectory) else elim part [
      | Dot ↦ Some (Goes place)
      | DotDot ↦ if place.0 == 1 then Some (Goes place) else met_by (teller.entry place.0 Parent)
      | Name name ↦ met_by (teller.entry place.0 (Entry name))
    ]) ≡ Some met → Is_usual_met met) [
      | false ↦ usual_stop met
      | true ↦ by_part part
    ] e
  where
    by_part : (part : Part) → elim part [
      | Dot ↦ Some (Goes place)
      | DotDot ↦ if place.0 == 1 then Some (Goes place) else met_by (teller.entry place.0 Parent)
      | Name name ↦ met_by (teller.entry place.0 (Entry name))
    ] ≡ Some met → Is_usual_met met
    by_part Dot is = usual_going place met is
    by_part (Name name) is = usual_by (teller.entry place.0 (Entry name)) met is
    by_part DotDot is = elim (place.0 == 1) as (λ b. (if b then Some (Goes place) else met_by (teller.entry place.0 Parent)) ≡ Some met → Is_usual_met met) [
      | true ↦ usual_going place met
      | false ↦ usual_by (teller.entry place.0 Parent) met
    ] is

usual_end : (how : Follow) (place : Target) (slash : Bool) (o : Outcome) → Some (ending how place slash) ≡ Some o → Is_usual o
usual_end how place slash o e =
    elim ((slash || wants_directory how) && not (is_directory place)) as (λ b. Some (if b then Refused NotDirectory else Found place) ≡ Some o → Is_usual o) [
      | true ↦ λ is. let same : Refused NotDirectory ≡ o = cc in subst Is_usual same no_directory
      | false ↦ λ is. let same : Found place ≡ o = cc in subst Is_usual same tt
    ] e

over-usual : (teller : Teller) (how : Follow) (follow_link : Target → ℕ → List Part → Bool → Option Outcome)
    → ((place : Target) (link : ℕ) (rest : List Part) (slash : Bool) (o : Outcome) → follow_link place link rest slash ≡ Some o → Is_usual o)
    → (parts : List Part) (place : Target) (slash : Bool) (o : Outcome) → over_parts teller how follow_link place parts slash ≡ Some o → Is_usual o
over-usual teller how follow_link so [] place slash o e = usual_end how place slash o e
over-usual teller how follow_link so (part ∷ rest) place slash o e =
    by_met (at_part teller place part) (usual_part teller place part) (λ next. over-usual teller how follow_link so rest next slash o) e
  where
    by_met : (m : Option Met) → ((met : Met) → m ≡ Some met → Is_usual_met met) → ((next : Target) → over_parts teller how follow_link next rest slash ≡ Some o → Is_usual o)
        → with_met m (λ next. over_parts teller how follow_link next rest slash)
        (λ link. if is_empty rest && not slash && keeps_link how then Some (Found link) else follow_link place link.0 rest slash) ≡ Some o → Is_usual o
    by_met None met_so on e' = cc
    by_met (Some (Goes next)) met_so on e' = on next e'
    by_met (Some (Stops refusal)) met_so on e' = let same : Refused refusal ≡ o = cc in subst Is_usual same (met_so (Stops refusal) refl)
    by_met (Some (Meets link)) met_so on e' =
        elim (is_empty rest && not slash && keeps_link how) as (λ b. (if b then Some (Found link) else follow_link place link.0 rest slash) ≡ Some o → Is_usual o) [
          | true ↦ λ is. let same : Found link ≡ o = cc in subst Is_usual same tt
          | false ↦ λ is. so place link.0 rest slash o is
        ] e'

on_text : (P : Outcome → Type 0) (text : Option (List ℕ)) (next : List ℕ → Option Outcome) (o : Outcome) → ((bytes : List ℕ) → next bytes ≡ Some o → P o) → with_text text next ≡ Some o → P o
on_text P None next o so e = cc
on_text P (Some bytes) next o so e = so bytes e

pub resolve-usual : (teller : Teller) (how : Follow) (links : ℕ) (from : Target) (parts : List Part) (slash : Bool) (o : Outcome) → resolve teller how links from parts slash ≡ Some o → Is_usual o
unfolding resolve
resolve-usual teller how zero from parts slash o e =
    over-usual teller how (λ place link rest slash. Some (Refused TooManyLinks)) (λ p l r s k is. let same : Refused TooManyLinks ≡ k = cc in subst Is_usual same too_many) parts from slash o e
resolve-usual teller how (suc left) from parts slash o e =
    over-usual teller how (λ place link rest slash. with_text (teller.text link) (λ text.
    resolve teller how left (if (path_in text).absolute then root else place) ((path_in text).parts ++ rest) (slash || is_empty rest && (path_in text).slash)))
    (λ p l r s k is. on_text Is_usual (teller.text l) _ k (λ text. resolve-usual teller how left (if (path_in text).absolute then root else p) ((path_in text).parts ++ r) (s || is_empty r && (path_in text).slash) k) is) parts from slash o e

on_start : (from : Option (Option Target)) (go : Target → Option Outcome) (o : Outcome) → ((p : Target) → go p ≡ Some o → Is_usual o) → with_start from go ≡ Some o → Is_usual o
on_start None go o so e = cc
on_start (Some None) go o so e = let same : Refused NotFound ≡ o = cc in subst Is_usual same missing
on_start (Some (Some p)) go o so e = so p e

pub walk-usual : (teller : Teller) (base : ℕ) (path : Path) (how : Follow) (o : Outcome) → walk teller base path how ≡ Some o → Is_usual o
walk-usual teller base path how o e = on_start (start teller base path) _ o (λ p. resolve-usual teller how MOST_LINKS p path.parts path.slash o) e

pub place-usual : (teller : Teller) (base : ℕ) (path : Path) (refusal : Refusal) → place teller base path ≡ Some (Not refusal) → Contains walk_refusals refusal
place-usual teller base path refusal e =
    by_front (slice_get path.parts (length path.parts - 1)) (front_of teller base path) (λ o is. on_start (start teller base path) _ o (λ p. resolve-usual teller follow.Dir MOST_LINKS p (take (length path.parts - 1) path.parts) false o) is) e
  where
    by_front : (last : Option Part) (front : Option Outcome) → ((o : Outcome) → front ≡ Some o → Is_usual o) → placed_by last path.slash front ≡ Some (Not refusal) → Contains walk_refusals refusal
    by_front None front so is = absurd cc
    by_front (Some part) None so is = cc
    by_front (Some part) (Some (Refused n)) so is = let same : n ≡ refusal = cc in subst (λ k. Contains walk_refusals k) same (so (Refused n) refl)
    by_front (Some part) (Some (Found q)) so is = absurd cc

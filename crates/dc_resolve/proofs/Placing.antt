-- The place of a path by its front.
use Rattle.std.proofs.Common.{◌≡◌, ℕ, ◌-◌, ◌≤◌, List, [], ◌∷◌, ◌++◌, false, Option, Some, None, length, slice_get, take, refl, ap, sym, ◌∙◌}
use Rattle.dc_names.specs.Lasts.{last_part}
use Rattle.dc_names.specs.Paths.{Part, begins_with_slash, has_end_slash, parts_of, path_in}
use Rattle.dc_plain.specs.declared.call.Follow.TheVariants as follow
use Rattle.dc_names.specs.declared.limits.TheConstants.{MOST_LINKS}
use Rattle.dc_plain.specs.Facts.{Target, Teller}
use Rattle.dc_plain.specs.Places.{place, placed_by, start, with_start}
use Rattle.dc_plain.specs.Resolution.{Outcome, resolve}
use Rattle.dc_resolve.specs.Fronts.{Begins, IsPlaceIn, LeadsToFront}
use Rattle.dc_resolve.specs.Ends.{outcome_shown}
use Rattle.dc_resolve.specs.declared.walked.Walked.{Walked}
use Rattle.dc_resolve.proofs.Fronts.{begins_so, front_of, last_of}
use Rattle.dc_resolve.proofs.Slashes.{resolve_same}

pub place_is : (teller : Teller) (base : ℕ) (text front : List ℕ) (last : Part) {bytes : List ℕ} {outcome : Option Outcome} → bytes ≡ text → parts_of bytes ≡ parts_of front ++ last ∷ []
    → with_start (start teller base (path_in text)) (λ at. resolve teller follow.Dir MOST_LINKS at (parts_of front) false) ≡ outcome
    → place teller base (path_in text) ≡ placed_by (Some last) (has_end_slash text) outcome
place_is teller base text front last same split found =
    let is : parts_of text ≡ parts_of front ++ last ∷ [] = ap parts_of (sym same) ∙ split in
    let at_last : slice_get (parts_of text) (length (parts_of text) - 1) ≡ Some last = ap (λ ps. slice_get ps (length ps - 1)) is ∙ last_of (parts_of front) last in
    let before : take (length (parts_of text) - 1) (parts_of text) ≡ parts_of front = ap (λ ps. take (length ps - 1) ps) is ∙ front_of (parts_of front) last in
    (λ i. placed_by (at_last i) (has_end_slash text) (with_start (start teller base (path_in text)) (λ at. resolve teller follow.Dir MOST_LINKS at (before i) false)))
    ∙ ap (placed_by (Some last) (has_end_slash text)) found

-- if the front leads to an end that was met
pub place_met : (teller : Teller) (base : ℕ) (text front : List ℕ) (last : Part) {bytes : List ℕ} {found met : Walked} → bytes ≡ text → parts_of bytes ≡ parts_of front ++ last ∷ []
    → with_start (start teller base (path_in text)) (λ at. resolve teller follow.Dir MOST_LINKS at (parts_of front) false) ≡ Some (outcome_shown found) → found ≡ met
    → place teller base (path_in text) ≡ placed_by (Some last) (has_end_slash text) (Some (outcome_shown met))
place_met teller base text front last same split found is = place_is teller base text front last same split (found ∙ ap (λ e. Some (outcome_shown e)) is)

with_start_same : (at : Option (Option Target)) {g h : Target → Option Outcome} → ((x : Target) → g x ≡ h x) → with_start at g ≡ with_start at h
with_start_same None e = refl
with_start_same (Some None) e = refl
with_start_same (Some (Some place)) e = e place

-- a text in two, before its last part and from there on
module _ (front text bytes : List ℕ) (last : Part) (same : bytes ≡ text) (split : parts_of bytes ≡ parts_of front ++ last ∷ []) where
  parts_are : parts_of text ≡ parts_of front ++ last ∷ []
  parts_are = ap parts_of (sym same) ∙ split

  -- as a path of its own the front leads where all parts but the last do
  pub leads_to_front : 1 ≤ length front → Begins front bytes → LeadsToFront front text
  leads_to_front some begins teller base =
      let absolute : begins_with_slash front ≡ begins_with_slash text = begins_so front bytes some begins ∙ ap begins_with_slash same in
      let before : take (length (parts_of text) - 1) (parts_of text) ≡ parts_of front = ap (λ ps. take (length ps - 1) ps) parts_are ∙ front_of (parts_of front) last in
      with_start_same (start teller base (path_in front)) (λ at. resolve_same teller MOST_LINKS at (parts_of front) (has_end_slash front) false)
      ∙ (λ i. with_start (start teller base (record { parts = sym before i; absolute = absolute i; slash = false })) (λ at. resolve teller follow.Dir MOST_LINKS at (sym before i) false))

  -- and the last part stands in the directory to which they lead
  pub place_there : (dir : ℕ) → IsPlaceIn dir text (record { dir = dir; last = last_part last; slash = has_end_slash text })
  place_there dir teller base kind leads =
      let at_last : slice_get (parts_of text) (length (parts_of text) - 1) ≡ Some last = ap (λ ps. slice_get ps (length ps - 1)) parts_are ∙ last_of (parts_of front) last in
      λ i. placed_by (at_last i) (has_end_slash text) (leads i)

-- If a directory is wanted, a slash behind the path says nothing more.
use Rattle.std.proofs.Common.{◌≡◌, ℕ, zero, suc, ◌&&◌, ◌||◌, not, List, [], ◌∷◌, ◌++◌, Bool, true, false, if◌then◌else◌, Option, Some, None, refl, ap, sym, ◌∙◌}
use Rattle.dc_names.specs.Bytes.{is_empty}
use Rattle.dc_names.specs.Paths.{Part, path_in}
use Rattle.dc_plain.specs.declared.call.Follow.TheVariants as follow
use Rattle.dc_plain.specs.Facts.{Target, Teller}
use Rattle.dc_plain.specs.Resolution.{Met, Outcome, at_part, is_directory, over_parts, resolve, root, with_met, with_text}
use Rattle.dc_plain.specs.Resolution.Met.{Goes, Stops, Meets}
use Rattle.dc_plain.specs.Resolution.Outcome.{Found, Refused}
use Rattle.dc_names.specs.declared.refusal.Refusal.TheVariants.{NotDirectory}

with_met_same : (m : Option Met) {g h k l : Target → Option Outcome} → ((x : Target) → g x ≡ h x) → ((x : Target) → k x ≡ l x) → with_met m g k ≡ with_met m h l
with_met_same None e f = refl
with_met_same (Some (Goes place)) e f = e place
with_met_same (Some (Stops refusal)) e f = refl
with_met_same (Some (Meets link)) e f = f link

with_text_same : (t : Option (List ℕ)) {g h : List ℕ → Option Outcome} → ((x : List ℕ) → g x ≡ h x) → with_text t g ≡ with_text t h
with_text_same None e = refl
with_text_same (Some text) e = e text

or_true : (b : Bool) → (b || true) ≡ true
or_true true = refl
or_true false = refl

kept_same : (a s t : Bool) (x u v : Option Outcome) → u ≡ v → (if a && not s && false then x else u) ≡ (if a && not t && false then x else v)
kept_same false s t x u v e = e
kept_same true false false x u v e = e
kept_same true false true x u v e = e
kept_same true true false x u v e = e
kept_same true true true x u v e = e

module _ (teller : Teller) where
  over_same : (f : Target → ℕ → List Part → Bool → Option Outcome) → ((at : Target) (link : ℕ) (rest : List Part) (s t : Bool) → f at link rest s ≡ f at link rest t)
      → (at : Target) (parts : List Part) (s t : Bool) → over_parts teller follow.Dir f at parts s ≡ over_parts teller follow.Dir f at parts t
  over_same f same at [] s t = ap (λ (b : Bool). Some (if b && not (is_directory at) then Refused NotDirectory else Found at)) (or_true s ∙ sym (or_true t))
  over_same f same at (part ∷ rest) s t = with_met_same (at_part teller at part) (λ next. over_same f same next rest s t) (λ link. kept_same (is_empty rest) s t _ _ _ (same at link.0 rest s t))

  pub resolve_same : (n : ℕ) (at : Target) (parts : List Part) (s t : Bool) → resolve teller follow.Dir n at parts s ≡ resolve teller follow.Dir n at parts t
  unfolding resolve
  resolve_same zero = over_same _ (λ at link rest s t. refl)
  resolve_same (suc n) = over_same _ (λ at link rest s t. with_text_same (teller.text link) (λ text. resolve_same n (if (path_in text).absolute then root else at) ((path_in text).parts ++ rest) (s || is_empty rest && (path_in text).slash) (t || is_empty rest && (path_in text).slash)))

-- The parts of a text without a fault are names or dots.
use Rattle.std.proofs.Common.{◌≡◌, ℕ, ◌||◌, not, List, [], ◌∷◌, Bool, true, false, cond, refl, ◌∙◌, map, if◌then◌else◌}
use Rattle.std.specs.List.{AllByRecursion, list_all, filter}
use Rattle.std.proofs.lemmas.Bool.{and_parts}
use Rattle.dc_names.specs.Bytes.{is_empty, is_dot, is_dot_dot, is_name, is_part, pieces}
use Rattle.dc_names.specs.Laws.{IsNameOrDots, PartsAreNamesOrDots}
use Rattle.dc_names.specs.Paths.{part_of}
use Rattle.dc_names.specs.Paths.Part.{Name, Dot, DotDot}
use Rattle.dc_names.proofs.Valid.{valid_parts}

part_by : (piece : List ℕ) (empty dot dots a_name : Bool) → is_name piece ≡ a_name → (empty || dot || dots || a_name) ≡ true → empty ≡ false
    → IsNameOrDots (if dot then Dot else if dots then DotDot else Name piece)
part_by piece true dot dots a_name is e full = cc
part_by piece false true dots a_name is e full = tt
part_by piece false false true a_name is e full = tt
part_by piece false false false a_name is e full = is ∙ e

parts_by : (ps : List (List ℕ)) → list_all is_part ps ≡ true → AllByRecursion IsNameOrDots (map part_of (filter (λ piece. not (is_empty piece)) ps))
parts_by [] all = tt
parts_by (p ∷ ps) all =
    let each = and_parts (is_part p) (list_all is_part ps) all in
    let rest = parts_by ps each.1 in
    elim (is_empty p) as (λ b. is_empty p ≡ b → AllByRecursion IsNameOrDots (map part_of (cond (not b) (p ∷ filter (λ piece. not (is_empty piece)) ps) (filter (λ piece. not (is_empty piece)) ps)))) [
      | true ↦ λ is. rest
      | false ↦ λ is. (part_by p (is_empty p) (is_dot p) (is_dot_dot p) (is_name p) refl each.0 is, rest)
    ] refl

pub parts-named : PartsAreNamesOrDots
parts-named text valid = parts_by (pieces text) (valid_parts text valid)

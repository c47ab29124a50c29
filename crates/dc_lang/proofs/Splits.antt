-- Cutting what is shown, and showing what was cut.
use Rattle.std.proofs.Common.{◌≡◌, List, [], ◌∷◌, Bool, true, false, cond, map, refl, ap, sym, ◌∙◌}
use Rattle.std.proofs.lemmas.Simd.{map-map}
use Rattle.std.specs.Borrow.{Bor}
use Rattle.std.specs.List.{slice_split, onto_first}
use Rattle.dc_lang.specs.Commands.{meaning_of}
use Rattle.dc_lang.specs.Phases.{all_ordered, is_sync, orders_in, phases}
use Rattle.dc_lang.specs.declared.line.Line.{Line}

-- cutting what is shown, and showing what was cut
pub slice_split-shown : {A B : Type 0} (shown : A → B) (p : B → Bool) (xs : List A) → slice_split p (map shown xs) ≡ map (map shown) (slice_split (λ x. p (shown x)) xs)
slice_split-shown shown p [] = refl
slice_split-shown shown p (x ∷ xs) =
    elim (p (shown x)) as (λ t. cond t ([] ∷ slice_split p (map shown xs)) (onto_first (shown x) (slice_split p (map shown xs)))
    ≡ map (map shown) (cond t ([] ∷ slice_split (λ y. p (shown y)) xs) (onto_first x (slice_split (λ y. p (shown y)) xs)))) [
      | true ↦ ap (λ parts. [] ∷ parts) (slice_split-shown shown p xs)
      | false ↦ ap (onto_first (shown x)) (slice_split-shown shown p xs) ∙ onto_first-shown shown x (slice_split (λ y. p (shown y)) xs)
    ]
  where
    onto_first-shown : {A B : Type 0} (shown : A → B) (x : A) (parts : List (List A)) → onto_first (shown x) (map (map shown) parts) ≡ map (map shown) (onto_first x parts)
    onto_first-shown shown x [] = refl
    onto_first-shown shown x (part ∷ parts) = refl

-- the parts between lines that say `sync` have the orders of the phases
pub phases-of_parts : (lines : List Line) (parts : List (Bor (List Line))) → map (λ part. part.now) parts ≡ slice_split (λ line. is_sync (meaning_of line)) lines
    → all_ordered parts ≡ phases (map meaning_of lines)
phases-of_parts lines parts is =
    sym (map-map (λ part. orders_in (map meaning_of part)) (λ (part : Bor (List Line)). part.now) parts)
    ∙ ap (map (λ part. orders_in (map meaning_of part))) is
    ∙ sym (map-map orders_in (map meaning_of) (slice_split (λ line. is_sync (meaning_of line)) lines))
    ∙ ap (map orders_in) (sym (slice_split-shown meaning_of is_sync lines))

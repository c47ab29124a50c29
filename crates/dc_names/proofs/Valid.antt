-- The pieces of a text without a fault.
use Rattle.std.proofs.Common.{◌≡◌, ℕ, ◌==◌, ◌&&◌, ◌||◌, ◌∷◌, [], List, length, Bool, true, false, cond, not, refl, Some, None, IsTrue, nat_lt}
use Rattle.std.specs.List.{onto_first, list_all, list_any}
use Rattle.std.proofs.lemmas.Bool.{and_parts, or_parts}
use Rattle.dc_names.specs.Bytes.{pieces, is_empty, is_part, is_dot, is_dot_dot, has_parts}
use Rattle.dc_names.specs.Paths.{fault_of, is_long}
use Rattle.dc_names.specs.declared.limits.TheConstants.{NAME_MAX, PATH_MAX}
use Rattle.dc_names.specs.declared.fault.TextFault.TheVariants.{Empty, Long, Zero}

-- no slash and no zero byte
abbrev is_clean : List ℕ → Bool
is_clean piece = not (list_any (λ b. b == 47 || b == 0) piece)

abbrev is_long_piece : List ℕ → Bool
is_long_piece piece = nat_lt NAME_MAX (length piece)

onto_clean : (b : ℕ) (ps : List (List ℕ)) → (b == 47) ≡ false → (b == 0) ≡ false → list_all is_clean ps ≡ true → list_all is_clean (onto_first b ps) ≡ true
onto_clean b [] slash zero rest = rw (slash, zero) refl
onto_clean b (p ∷ ps) slash zero rest = rw (slash, zero) rest

clean_pieces : (text : List ℕ) → list_any (λ b. b == 0) text ≡ false → list_all is_clean (pieces text) ≡ true
clean_pieces [] none = refl
clean_pieces (b ∷ bs) none =
    let parts : ((b == 0) ≡ false) × (list_any (λ b. b == 0) bs ≡ false) = or_parts (b == 0) (list_any (λ b. b == 0) bs) none in
    let rest = clean_pieces bs parts.1 in
    elim (b == 47) as (λ t. (b == 47) ≡ t → list_all is_clean (cond t ([] ∷ pieces bs) (onto_first b (pieces bs))) ≡ true) [
      | true ↦ λ e. rest
      | false ↦ λ e. onto_clean b (pieces bs) e parts.0 rest
    ] refl

part_from : (e d dd long bad : Bool) → long ≡ false → not bad ≡ true → (e || d || dd || (not e && not long && not bad && not d && not dd)) ≡ true
part_from true d dd long bad short clean = refl
part_from false true dd long bad short clean = refl
part_from false false true long bad short clean = refl
part_from false false false long bad short clean = rw (short, clean) refl

parts_from : (ps : List (List ℕ)) → list_any is_long_piece ps ≡ false → list_all is_clean ps ≡ true → list_all is_part ps ≡ true
parts_from [] short clean = refl
parts_from (p ∷ ps) short clean =
    let s = or_parts (is_long_piece p) (list_any is_long_piece ps) short in
    let k = and_parts (is_clean p) (list_all is_clean ps) clean in
    let here : is_part p ≡ true = part_from (is_empty p) (is_dot p) (is_dot_dot p) (is_long_piece p) (list_any (λ b. b == 47 || b == 0) p) s.0 k.0 in
    rw here (parts_from ps s.1 k.1)

no_fault : (e l z : Bool) → (cond e (Some Empty) (cond l (Some Long) (cond z (Some Zero) None))) ≡ None → (l ≡ false) × (z ≡ false)
no_fault true l z none = absurd (cc)
no_fault false true z none = absurd (cc)
no_fault false false true none = absurd (cc)
no_fault false false false none = (refl, refl)

-- a text without a fault has no piece that a path may not have
pub valid_parts : (text : List ℕ) → fault_of text ≡ None → IsTrue (has_parts text)
valid_parts text valid =
    let facts = no_fault (is_empty text) (is_long text) (list_any (λ b. b == 0) text) valid in
    let short = or_parts (nat_lt PATH_MAX (length text)) (list_any is_long_piece (pieces text)) facts.0 in
    parts_from (pieces text) short.1 (clean_pieces text facts.1)

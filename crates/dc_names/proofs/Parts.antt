-- The first piece of a text, and what comes after it.
use Rattle.std.proofs.Common.{◌≡◌, ℕ, suc, ◌+◌, ◌≤◌, ◌==◌, ◌&&◌, ◌<◌, ◌-◌, ◌∷◌, [], List, take, drop, map, length, true, false, cond, not, refl, ap, sym, ◌∙◌, arith, IsTrue, length-take-le}
use Rattle.std.specs.List.{position_or_len, onto_first, list_all, filter}
use Rattle.std.proofs.lemmas.List.Sums.{prefix_len-le-length}
use Rattle.std.proofs.lemmas.Bool.{and_parts}
use Rattle.std.proofs.lemmas.List.{length-drop, drop-drop}
use Rattle.std.proofs.lemmas.Bool.Decides.{nat_tests}
use Rattle.dc_names.specs.Bytes.{pieces, is_empty, is_part, has_parts, IsRest}
use Rattle.dc_names.specs.Paths.{Part, words_of, parts_of, part_of, IsFirst}

abbrev pub piece_end : List ℕ → ℕ
piece_end text = position_or_len (λ b. b == 47) text

pub piece_end-le : (text : List ℕ) → piece_end text ≤ length text
piece_end-le text = prefix_len-le-length _ text

one_more : (n : ℕ) → 1 + n ≡ suc n
one_more n = omega arith

-- the pieces after the first
abbrev others : List ℕ → List (List ℕ)
others [] = []
others (b ∷ bs) = pieces bs

pieces_cut : (text : List ℕ) → pieces text ≡ take (piece_end text) text ∷ others (drop (piece_end text) text)
pieces_cut [] = refl
pieces_cut (b ∷ bs) =
    let more = pieces_cut bs in
    elim (b == 47) as (λ t. cond t ([] ∷ pieces bs) (onto_first b (pieces bs)) ≡ take (cond (not t) (1 + piece_end bs) 0) (b ∷ bs) ∷ others (drop (cond (not t) (1 + piece_end bs) 0) (b ∷ bs))) [
      | true ↦ refl
      | false ↦ rw (one_more (piece_end bs)) (ap (onto_first b) more)
    ]

-- the rest begins with the slash, before which an empty piece stands, or is empty
words_after : (text : List ℕ) → filter (λ piece. not (is_empty piece)) (others (drop (piece_end text) text)) ≡ words_of (drop (piece_end text) text)
words_after [] = refl
words_after (b ∷ bs) =
    let more = words_after bs in
    elim (b == 47) as (λ t. (b == 47) ≡ t → filter (λ piece. not (is_empty piece)) (others (drop (cond (not t) (1 + piece_end bs) 0) (b ∷ bs))) ≡ words_of (drop (cond (not t) (1 + piece_end bs) 0) (b ∷ bs))) [
      | true ↦ λ e. rw e refl
      | false ↦ λ e. rw (one_more (piece_end bs)) more
    ] refl

valid_after : (text : List ℕ) → list_all is_part (others (drop (piece_end text) text)) ≡ has_parts (drop (piece_end text) text)
valid_after [] = refl
valid_after (b ∷ bs) =
    let more = valid_after bs in
    elim (b == 47) as (λ t. (b == 47) ≡ t → list_all is_part (others (drop (cond (not t) (1 + piece_end bs) 0) (b ∷ bs))) ≡ has_parts (drop (cond (not t) (1 + piece_end bs) 0) (b ∷ bs))) [
      | true ↦ λ e. rw e refl
      | false ↦ λ e. rw (one_more (piece_end bs)) more
    ] refl

-- a text that is cut at the end of its first piece
pub record IsCut (text piece rest : List ℕ) : Type 0 where
  pub front : piece ≡ take (piece_end text) text
  pub back : rest ≡ drop (piece_end text) text

pub cut_at : {text piece rest : List ℕ} {n : ℕ} → n ≡ piece_end text → piece ≡ take n text → rest ≡ drop n text → IsCut text piece rest
cut_at {text} is front back = record {
  front = front ∙ ap (λ (n : ℕ). take n text) is;
  back = back ∙ ap (λ (n : ℕ). drop n text) is;
}

pub first_word : {text piece rest : List ℕ} → IsCut text piece rest → (length piece == 0) ≡ false → parts_of text ≡ part_of piece ∷ parts_of rest
first_word {text} {piece} {rest} cut some =
    rw (pieces_cut text, ← cut.front, ← cut.back, some) (ap (λ ws. part_of piece ∷ map part_of ws) (rw cut.back (words_after text)))

first_valid : {text piece rest : List ℕ} → IsCut text piece rest → has_parts text ≡ (is_part piece && has_parts rest)
first_valid {text} {piece} {rest} cut =
    rw (pieces_cut text, ← cut.front, ← cut.back) (ap (λ v. is_part piece && v) (rw cut.back (valid_after text)))

pub valid_cut : {text piece rest : List ℕ} → IsCut text piece rest → IsTrue (has_parts text) → IsTrue (is_part piece) × IsTrue (has_parts rest)
valid_cut {text} {piece} {rest} cut valid = and_parts (is_part piece) (has_parts rest) (sym (first_valid cut) ∙ valid)

-- the rest of a rest, from some place in that on
rest_of_rest : (bytes text rest : List ℕ) (n : ℕ) → IsRest text bytes → n ≤ length text → rest ≡ drop n text → IsRest rest bytes
rest_of_rest bytes text rest n is within at =
    let len : length rest ≡ length text - n = ap length at ∙ length-drop n text in
    let from : length bytes - length text + n ≡ length bytes - length rest = omega (arith, is.within) in
    record {
      within = omega (arith, is.within);
      bytes = at ∙ ap (λ (t : List ℕ). drop n t) is.bytes ∙ drop-drop n (length bytes - length text) bytes ∙ ap (λ (k : ℕ). drop k bytes) from;
    }

-- the first part of a text, behind whose first slashes it is cut
pub first_taken : {bytes text piece rest : List ℕ} {part : Part} → parts_of text ≡ parts_of bytes → IsTrue (has_parts text) → IsRest text bytes
    → IsCut text piece rest → (length piece == 0) ≡ false → part ≡ part_of piece → IsFirst part rest bytes
first_taken {bytes} {text} {piece} {rest} {part} same valid behind cut some is = record {
  parts = sym same ∙ first_word cut some ∙ ap (λ (p : Part). p ∷ parts_of rest) (sym is);
  valid = (valid_cut cut valid).1;
  behind = rest_of_rest bytes text rest (piece_end text) behind (piece_end-le text) cut.back;
  fewer =
      let here : length piece ≡ piece_end text = ap length cut.front ∙ length-take-le (piece_end text) text (piece_end-le text) in
      let len : length rest ≡ length text - piece_end text = ap length cut.back ∙ length-drop (piece_end text) text in
      let any : 0 < length piece = grind (arith, nat_tests) in
      omega (arith, behind.within, piece_end-le text);
}

-- Bytes without the slashes at their end, in two: up to their last slash, and behind it.
use Rattle.std.proofs.Common.{◌≡◌, ℕ, [], ◌∷◌, ◌++◌, ◌-◌, List, drop, take, length, false, IsTrue, ap, sym, ◌∙◌}
use Rattle.std.proofs.lemmas.Bool.{and_parts}
use Rattle.dc_names.specs.Bytes.{has_parts}
use Rattle.dc_names.specs.Paths.{Part, ends_in_slash, parts_of}
use Rattle.dc_resolve.specs.Fronts.{IsFront}
use Rattle.dc_resolve.proofs.Fronts.{alone, behind, empty_piece, nothing_cut, parts_cut, valid_cut}

module _ (bytes : List ℕ) {front text : List ℕ} (f : IsFront front text) where
  module _ (same : has_parts text ≡ has_parts bytes) (valid : IsTrue (has_parts bytes)) where
    -- both have parts
    pub valid_front : IsTrue (has_parts front)
    valid_front = (and_parts _ _ (sym (valid_cut f) ∙ same ∙ valid)).0

    pub valid_rest : IsTrue (has_parts (take (length text - length front) (drop (length front) text)))
    valid_rest = ap has_parts (behind f) ∙ (and_parts _ _ (sym (valid_cut f) ∙ same ∙ valid)).1

  -- with no part behind the last slash there is none
  pub none_left : parts_of text ≡ parts_of bytes → ends_in_slash text ≡ false → parts_of (take (length text - length front) (drop (length front) text)) ≡ [] → parts_of bytes ≡ []
  none_left same unended none = sym same ∙ nothing_cut f unended (empty_piece f.before.piece f.before.whole (ap parts_of (sym (behind f)) ∙ none))

  -- and else the last part stands there alone
  pub last_alone : {part : Part} {after : List Part} → parts_of text ≡ parts_of bytes → parts_of (take (length text - length front) (drop (length front) text)) ≡ part ∷ after → parts_of bytes ≡ parts_of front ++ part ∷ []
  last_alone {part = part} same is =
      let first = ap parts_of (sym (behind f)) ∙ is in
      sym same ∙ parts_cut f ∙ ap (λ ps. parts_of front ++ ps) (first ∙ ap (λ ps. part ∷ ps) (alone f.before.piece part _ f.before.whole first))

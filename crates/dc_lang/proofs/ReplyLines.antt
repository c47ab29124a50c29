-- The lines of a reply and of a command as they are put together.
use Rattle.std.proofs.Common.{◌≡◌, ℕ, List, [], ◌∷◌, ◌++◌, sym, ap, ◌∙◌, append_assoc, append-nil}
use Rattle.std.proofs.lemmas.List.Concat.{flat_map-append}
use Rattle.dc_lang.specs.Words.{spaced}
use Rattle.dc_lang.specs.Writing.{behind_spaces}

spaced-cons : (word : List ℕ) (words : List (List ℕ)) → spaced (word ∷ words) ≡ word ++ behind_spaces words
spaced-cons word [] = sym (append-nil word)
spaced-cons word (next ∷ words) = ap (λ rest. word ++ 32 ∷ rest) (spaced-cons next words)

pub reply_line : (first last : List ℕ) (words : List (List ℕ)) → spaced (first ∷ words ++ last ∷ []) ++ 10 ∷ [] ≡ (first ++ behind_spaces words) ++ (32 ∷ last ++ 10 ∷ [])
reply_line first last words =
    ap (λ line. line ++ 10 ∷ []) (spaced-cons first (words ++ last ∷ []) ∙ ap (λ rest. first ++ rest) (flat_map-append (λ word. 32 ∷ word) words (last ∷ [])))
    ∙ simp (append_assoc, append-nil)

pub command_line_is : (first verb : List ℕ) (words : List (List ℕ)) → ((first ++ 32 ∷ []) ++ verb) ++ behind_spaces words ≡ spaced (first ∷ verb ∷ words)
command_line_is first verb words =
    append_assoc (first ++ 32 ∷ []) verb (behind_spaces words) ∙ append_assoc first (32 ∷ []) (verb ++ behind_spaces words) ∙ sym (spaced-cons first (verb ∷ words))

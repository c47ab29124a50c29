-- How a reply's line is put together.
use Rattle.std.specs.Prelude.{ℕ, List, ◌∷◌}
use Rattle.std.specs.List.{flat_map}
use Rattle.dc_plain.specs.Requests.{Answer}
use Rattle.dc_lang.specs.Replies.{answer_words}

-- words that follow others, each behind a space
abbrev pub behind_spaces : List (List ℕ) → List ℕ
behind_spaces words = flat_map (λ word. 32 ∷ word) words

-- the words of an answer, each behind a space
abbrev pub answer_text : Answer → List ℕ
answer_text answer = behind_spaces (answer_words answer)

-- The lines of replies.
use Rattle.std.specs.Prelude.{ℕ, List, [], ◌∷◌, ◌++◌, map, codes, decimal}
use Rattle.dc_names.specs.declared.kind.Kind.{Kind}
use Rattle.dc_names.specs.declared.kind.Kind.TheVariants.{Dir, File, Link}
use Rattle.dc_plain.specs.Requests.{Answer}
use Rattle.dc_plain.specs.Requests.Answer.{Found, Done, Nothing, Bytes, Names, Counted, Refused}
use Rattle.dc_lang.specs.Words.{spelled, spaced}

abbrev pub kind_text : Kind → List ℕ
kind_text Dir = codes "dir"
kind_text File = codes "file"
kind_text Link = codes "link"

-- the words between the session and the point
abbrev pub answer_words : Answer → List (List ℕ)
answer_words (Found number kind) = codes "is" ∷ decimal number ∷ kind_text kind ∷ []
answer_words (Done number) = codes "ok" ∷ decimal number ∷ []
answer_words Nothing = codes "ok" ∷ []
answer_words (Refused number) = codes "no" ∷ decimal number ∷ []
answer_words (Bytes bytes) = codes "text" ∷ spelled bytes ∷ []
answer_words (Names names) = codes "names" ∷ map spelled names
answer_words (Counted number kind count) = codes "stat" ∷ decimal number ∷ kind_text kind ∷ decimal count ∷ []

-- the session, the answer, and how many calls had altered the tree before, with a newline
abbrev pub reply_text : ℕ → Answer → ℕ → List ℕ
reply_text session answer at = spaced (decimal session ∷ answer_words answer ++ (64 ∷ decimal at) ∷ []) ++ 10 ∷ []

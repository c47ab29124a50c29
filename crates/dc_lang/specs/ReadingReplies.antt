-- How the line of a reply is read.
use Rattle.std.specs.Prelude.{ℕ, ◌^◌, List, [], ◌∷◌, Bool, false, not, ◌==◌, ◌&&◌, nat_lt, if◌then◌else◌, Option, Some, None, option_map, codes, find}
use Rattle.std.specs.Str.{all_ascii_digits, bytes_eq}
use Rattle.std.specs.Str.Parse.{digits_value}
use Rattle.dc_names.specs.declared.kind.Kind.{Kind}
use Rattle.dc_names.specs.declared.kind.Kind.TheVariants.{Dir, File, Link}
use Rattle.dc_plain.specs.Requests.{Answer}
use Rattle.dc_plain.specs.Requests.Answer.{Found, Done, Nothing, Bytes, Names, Counted, Refused}
use Rattle.dc_lang.specs.Reading.{◌>>=◌, word_in, words_in, session_in, parts}
use Rattle.dc_lang.specs.Replies.{kind_text}
use Rattle.dc_lang.specs.Responses.{Response}

-- neither a sign nor a needless zero stands in front
abbrev pub begins_plainly : List ℕ → Bool
begins_plainly [] = false
begins_plainly (b ∷ []) = not (b == 43)
begins_plainly (b ∷ c ∷ text) = not (b == 43) && not (b == 48)

-- decimal digits, with no zero in front
abbrev pub is_numeral : List ℕ → Bool
is_numeral [] = false
is_numeral (b ∷ []) = all_ascii_digits (b ∷ [])
is_numeral (b ∷ c ∷ digits) = not (b == 48) && all_ascii_digits (b ∷ c ∷ digits)

-- a number of 64 bits
unfoldable pub number_in : List ℕ → Option ℕ
number_in text = if is_numeral text && nat_lt (digits_value 10 text) (2 ^ 64) then Some (digits_value 10 text) else None

abbrev pub all_kinds : List Kind
all_kinds = Dir ∷ File ∷ Link ∷ []

-- the kind with this text
unfoldable pub kind_in : List ℕ → Option Kind
kind_in text = find (λ kind. bytes_eq (kind_text kind) text) all_kinds

-- the words of each answer behind its first
abbrev pub found_in : List (List ℕ) → Option Answer
found_in (number_text ∷ kind_word ∷ []) = do
  number ← number_in number_text
  kind ← kind_in kind_word
  Some (Found number kind)
found_in _ = None

abbrev pub done_in : List (List ℕ) → Option Answer
done_in [] = Some Nothing
done_in (number_text ∷ []) = option_map Done (number_in number_text)
done_in _ = None

abbrev pub refused_in : List (List ℕ) → Option Answer
refused_in (number_text ∷ []) = option_map Refused (number_in number_text)
refused_in _ = None

abbrev pub counted_in : List (List ℕ) → Option Answer
counted_in (number_text ∷ kind_word ∷ count_text ∷ []) = do
  number ← number_in number_text
  kind ← kind_in kind_word
  count ← number_in count_text
  Some (Counted number kind count)
counted_in _ = None

abbrev pub text_in : List (List ℕ) → Option Answer
text_in (text ∷ []) = option_map Bytes (word_in text)
text_in _ = None

-- an answer of numbers alone, by its first word
abbrev pub numbers_in : List ℕ → List (List ℕ) → Option Answer
numbers_in first words =
    if bytes_eq first (codes "is") then found_in words
    else if bytes_eq first (codes "ok") then done_in words
    else if bytes_eq first (codes "no") then refused_in words
    else if bytes_eq first (codes "stat") then counted_in words
    else None

-- an answer, by its words
abbrev pub answer_in : List (List ℕ) → Option Answer
answer_in [] = None
answer_in (first ∷ words) =
    if bytes_eq first (codes "text") then text_in words
    else if bytes_eq first (codes "names") then option_map Names (words_in words)
    else numbers_in first words

-- a point: a number behind an at sign
abbrev pub point_in : List ℕ → Option ℕ
point_in [] = None
point_in (b ∷ digits) = if b == 64 then number_in digits else None

-- the last item, and those before it
abbrev pub last_apart : {A : Type 0} → List A → Option (A × List A)
last_apart [] = None
last_apart (x ∷ []) = Some (x, [])
last_apart (x ∷ y ∷ items) = option_map (λ ends. (ends.0, x ∷ ends.1)) (last_apart (y ∷ items))

-- an answer and its point
abbrev pub stamped_from : List (List ℕ) → List ℕ → Option (Answer × ℕ)
stamped_from words point = do
  at ← point_in point
  answer ← answer_in words
  Some (answer, at)

-- which is the last word
unfoldable pub stamped_in : List (List ℕ) → Option (Answer × ℕ)
stamped_in words = do
  ends ← last_apart words
  stamped_from ends.1 ends.0

-- behind its session
abbrev pub response_from : List (List ℕ) → Option Response
response_from [] = None
response_from (session_text ∷ words) = do
  session ← session_in session_text
  stamped ← stamped_in words
  Some (record { session = session; answer = stamped.0; at = stamped.1 })

-- a line, if a newline ends the text
unfoldable pub without_newline : List ℕ → Option (List ℕ)
without_newline text = do
  ends ← last_apart text
  if ends.0 == 10 then Some ends.1 else None

-- what the line of a reply tells, or none if it is no line of the grammar
abbrev pub response_in : List ℕ → Option Response
response_in line = do
  front ← without_newline line
  response_from (parts front)

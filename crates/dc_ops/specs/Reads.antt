-- What a read answers.
use Rattle.std.specs.Prelude.{Result, Ok, Err}
use Rattle.dc_names.specs.declared.refusal.Refusal.{Refusal}
use Rattle.dc_names.specs.Refusals.{refusal_number}
use Rattle.dc_plain.specs.Requests.{Answer}
use Rattle.dc_plain.specs.Requests.Answer.{Found, Done, Nothing, Bytes, Names, Counted, Refused}

-- the answer, or the refusal by its number
abbrev pub answered : Result Answer Refusal → Answer
answered (Ok answer) = answer
answered (Err refusal) = Refused (refusal_number refusal)

-- an answer that is as long as what it tells: a text, or the names in a directory
abbrev pub IsAtLength : Answer → Type 0
IsAtLength (Found number kind) = ⊥
IsAtLength (Done number) = ⊥
IsAtLength Nothing = ⊥
IsAtLength (Bytes bytes) = Unit {0}
IsAtLength (Names names) = Unit {0}
IsAtLength (Counted number kind count) = ⊥
IsAtLength (Refused number) = ⊥

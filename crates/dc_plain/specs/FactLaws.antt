-- What follows from facts that are true in a tree, and which facts stay true.
use Rattle.std.specs.Prelude.{◌≡◌, ℕ, List, Option, Some, None, option_map, Ok, Err}
use Rattle.std.specs.List.{AllByRecursion}
use Rattle.dc_names.specs.Paths.{path_of}
use Rattle.dc_names.specs.Refusals.{refusal_number, refusal_of}
use Rattle.dc_plain.specs.Facts.{Fact, Teller, key_of, told_by}
use Rattle.dc_plain.specs.Resolution.{Outcome}
use Rattle.dc_plain.specs.Resolution.Outcome.{Found as Ends, Refused as Fails}
use Rattle.dc_plain.specs.Places.{walk}
use Rattle.dc_plain.specs.Trees.{Tree, Holds}
use Rattle.dc_plain.specs.IsWellFormed.{IsWellFormed}
use Rattle.dc_plain.specs.Requests.{Request, Answer}
use Rattle.dc_plain.specs.Requests.Request.{Look, Readlink, Stat, List_names, Mkdir, Create, Hard_link, Symlink, Unlink, Rmdir, Rename}
use Rattle.dc_plain.specs.Requests.Answer.{Found, Refused}
use Rattle.dc_plain.specs.Operations.{operation}
use Rattle.dc_plain.specs.Runs.{tree_after, Touches}

abbrev pub outcome_answer : Outcome → Answer
outcome_answer (Ends place) = Found place.0 place.1
outcome_answer (Fails refusal) = Refused (refusal_number refusal)

-- what follows from what is told: the answer to a look-up, if each fact that it asks for is told
abbrev pub answer_told : Teller → Request → Option Answer
answer_told teller (Look base text how) = elim (path_of text) [
  | Ok path ↦ option_map outcome_answer (walk teller base path how)
  | Err fault ↦ Some (Refused (refusal_number (refusal_of fault)))
]
answer_told teller (Readlink base path) = None
answer_told teller (Stat base path) = None
answer_told teller (List_names base path) = None
answer_told teller (Mkdir base path) = None
answer_told teller (Create base path) = None
answer_told teller (Hard_link base old new) = None
answer_told teller (Symlink base text path) = None
answer_told teller (Unlink base path) = None
answer_told teller (Rmdir base path) = None
answer_told teller (Rename base old new flags) = None

-- an answer that follows from true facts is the operation's on the tree, which stays as it is
abbrev pub RepliesByFacts : Type 0
RepliesByFacts = (limit : ℕ) (t : Tree) (facts : List Fact) (request : Request) (answer : Answer)
    → AllByRecursion (Holds t) facts → answer_told (told_by facts) request ≡ Some answer → operation limit t request ≡ (answer, t)

-- a true fact whose key isn't touched stays true
abbrev pub UntouchedStay : Type 0
UntouchedStay = (limit : ℕ) (t : Tree) (request : Request) (fact : Fact)
    → IsWellFormed t → Holds t fact → (Touches limit t request (key_of fact) → ⊥) → Holds (tree_after limit t request) fact

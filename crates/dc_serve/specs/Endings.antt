-- How a run ends, in the bytes that the reader has left and the writer holds.
use Rattle.std.specs.Prelude.{◌≡◌, ℕ, ◌≤◌, List, length, take, Option, ◌⊎◌}
use Rattle.std.specs.Io.KnownBytes.{Appends, Keeps}
use Rattle.dc_lang.specs.Commands.{Order, Meaning}
use Rattle.dc_names.specs.declared.limits.TheConstants.{MOST_COUNT}
use Rattle.dc_serve.specs.Bytes.{AppendsFront, ReadWhole}
use Rattle.dc_lang.specs.Inputs.{AllSay, IsFirstBad}
use Rattle.dc_lang.specs.Lines.{lines_of}
use Rattle.dc_lang.specs.Phases.{in_order, phases}
use Rattle.dc_serve.specs.Serving.{opening, replies_in}
use Rattle.dc_serve.specs.Turns.{IsRun, IsTurnwise, Turn, all_of, text_of}
use Rattle.dc_serve.specs.declared.fault.ServeFault.{ServeFault}
use Rattle.dc_serve.specs.declared.fault.ServeFault.TheVariants.{BadSize, Read, BadLine, NoMemory, Spent, Write}

-- the commands of these phases were answered in a run of the plain tree, with this many inodes allowed, and its text was
-- written so
pub record Serves (limit : ℕ) (phases : List (List Order)) (Written : List ℕ → Type 0) : Type 0 where
  pub turns : List (List Turn)
  pub run : IsRun limit phases turns
  -- if the sessions take turns, the text is the plain server's
  pub plain : IsTurnwise phases → text_of (all_of turns) ≡ replies_in (opening limit) (in_order phases)
  pub written : Written (text_of (all_of turns))

-- serving ends early after whole phases, and if writing fails after a front of the text of some; `Spent` comes
-- only if there are as many orders as the clock may count
abbrev pub ServesFront : ℕ → List (List Order) → Option (List ℕ) → Option (List ℕ) → ServeFault → Type 0
ServesFront limit phases old new NoMemory = (count : ℕ) × Serves limit (take count phases) (Appends old new)
ServesFront limit phases old new Spent = MOST_COUNT ≤ length (in_order phases)
ServesFront limit phases old new Write = (count : ℕ) × Serves limit (take count phases) (AppendsFront old new)
ServesFront limit phases old new _ = ⊥

-- the bytes that a reader had and has, and those that a writer held and holds, if they tell them
pub record Streams : Type 0 where
  pub unread : Option (List ℕ)
  pub rest : Option (List ℕ)
  pub old : Option (List ℕ)
  pub new : Option (List ℕ)

abbrev pub streams : Option (List ℕ) → Option (List ℕ) → Option (List ℕ) → Option (List ℕ) → Streams
streams unread rest old new = record { unread = unread; rest = rest; old = old; new = new }

-- an input was read whole, and its lines say this
pub record Reads (unread rest : Option (List ℕ)) (said : List Meaning) : Type 0 where
  pub input : List ℕ
  pub read : ReadWhole unread rest input
  pub says : AllSay (lines_of input) said

abbrev pub Understood : Streams → List Meaning → Type 0
Understood streams said = Reads streams.unread streams.rest said

-- an input was read whole, and this line of it is the first bad one
pub record HasBadLine (n : ℕ) (unread rest : Option (List ℕ)) : Type 0 where
  pub input : List ℕ
  pub read : ReadWhole unread rest input
  pub bad : IsFirstBad n (lines_of input)

-- what comes before any command is served ends with these faults alone; nothing is read if a size is wrong
abbrev pub IsInputFault : Option (List ℕ) → Option (List ℕ) → ServeFault → Type 0
IsInputFault unread rest BadSize = Keeps unread rest
IsInputFault unread rest Read = Unit {0}
IsInputFault unread rest (BadLine n) = HasBadLine n unread rest
IsInputFault unread rest NoMemory = Unit {0}
IsInputFault unread rest Spent = ⊥
IsInputFault unread rest Write = ⊥

-- an input was read whole, and what was written is the replies to its commands in a run of the plain tree
pub record Answers (limit : ℕ) (streams : Streams) : Type 0 where
  pub said : List Meaning
  pub understood : Understood streams said
  pub served : Serves limit (phases said) (Appends streams.old streams.new)

-- the text of all replies if the commands come one after the other
abbrev pub output_of : ℕ → List Meaning → List ℕ
output_of limit said = replies_in (opening limit) (in_order (phases said))

-- an input was read whole, and if its sessions take turns, what was written is the plain server's replies
pub record AnswersPlainly (limit : ℕ) (streams : Streams) : Type 0 where
  pub said : List Meaning
  pub understood : Understood streams said
  pub plain : IsTurnwise (phases said) → Appends streams.old streams.new (output_of limit said)

-- an input was read whole, and of its phases the first were served and written
pub record AnswersPhases (limit : ℕ) (streams : Streams) : Type 0 where
  pub said : List Meaning
  pub understood : Understood streams said
  pub count : ℕ
  pub served : Serves limit (take count (phases said)) (Appends streams.old streams.new)

-- the same, and a front of the replies was written
pub record AnswersFront (limit : ℕ) (streams : Streams) : Type 0 where
  pub said : List Meaning
  pub understood : Understood streams said
  pub count : ℕ
  pub served : Serves limit (take count (phases said)) (AppendsFront streams.old streams.new)

-- an input was read whole, this line of it is the first bad one, and nothing was written
pub record RefusesLine (n : ℕ) (streams : Streams) : Type 0 where
  pub line : HasBadLine n streams.unread streams.rest
  pub kept : Keeps streams.old streams.new

-- nothing was written, or the input was good and the replies to its first phases were
abbrev pub StopsEarly : ℕ → Streams → Type 0
StopsEarly limit streams = Keeps streams.old streams.new ⊎ AnswersPhases limit streams

-- nothing was read and nothing was written
pub record LeavesAll (streams : Streams) : Type 0 where
  pub unread : Keeps streams.unread streams.rest
  pub kept : Keeps streams.old streams.new

-- what each fault leaves; `Spent` never comes, as no input holds this many commands
abbrev pub EndsBy : ℕ → Streams → ServeFault → Type 0
EndsBy limit streams BadSize = LeavesAll streams
EndsBy limit streams Read = Keeps streams.old streams.new
EndsBy limit streams (BadLine n) = RefusesLine n streams
EndsBy limit streams NoMemory = StopsEarly limit streams
EndsBy limit streams Spent = ⊥
EndsBy limit streams Write = AnswersFront limit streams

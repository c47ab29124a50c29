-- A server's input and output as stamps.
use Rattle.std.specs.Prelude.{◌≡◌, ℕ, ◌+◌, ◌<◌, List, [], ◌∷◌, ◌⊎◌, length, map, slice_index}
use Rattle.dc_lang.specs.Bases.{bases_after, first_bases}
use Rattle.dc_lang.specs.Commands.{Order, Meaning, order_of, request_from}
use Rattle.dc_lang.specs.Inputs.{AllSay, AllTell, IsFirstBad, IsFirstUnread}
use Rattle.dc_lang.specs.Lines.{lines_of, whole_lines}
use Rattle.dc_lang.specs.Phases.{in_order, phases}
use Rattle.dc_lang.specs.Responses.{Response, Tells, response_of}
use Rattle.dc_names.specs.declared.limits.TheConstants.{SESSIONS}
use Rattle.dc_lang.specs.declared.fault.InputFault.{InputFault}
use Rattle.dc_lang.specs.declared.fault.InputFault.TheVariants as inputs
use Rattle.dc_lang.specs.declared.input.Served.{Served}
use Rattle.dc_lang.specs.declared.line.Command.{Command}
use Rattle.dc_plain.specs.declared.call.Stamped.{Stamped}
use Rattle.dc_plain.specs.Legal.{Stamp}
use Rattle.dc_check.specs.Stamps.{stamp_of, stamps_of}
use Rattle.dc_check.specs.declared.stamp.Stamp as rust_stamp
use Rattle.dc_check.specs.declared.record.RecordFault.{RecordFault}
use Rattle.dc_check.specs.declared.record.RecordFault.TheVariants.{BadLine, Unpaired, NoMemory}

-- one response of its session for each order, and nothing else
abbrev pub ArePaired : List Order → List Response → Type 0
ArePaired [] [] = Unit {0}
ArePaired [] (response ∷ responses) = ⊥
ArePaired (order ∷ orders) [] = ⊥
ArePaired (order ∷ orders) (response ∷ responses) = (order.session ≡ response.session) × ArePaired orders responses

-- the stamp of an order whose session starts here
abbrev pub stamp_from : ℕ → Order → Response → Stamp
stamp_from base order response = record { actor = order.session; request = request_from base order; answer = response.answer; at = response.at }

-- each order with its response, for sessions that start here
abbrev pub stamps_from : List ℕ → List Order → List Response → List Stamp
stamps_from bases [] responses = []
stamps_from bases (order ∷ orders) [] = []
stamps_from bases (order ∷ orders) (response ∷ responses) =
    stamp_from (slice_index bases order.session) order response ∷ stamps_from (bases_after order.verb order.session response.answer bases) orders responses

-- the lines of both texts are read so
pub record AreRead (input output : List ℕ) (said : List Meaning) (told : List Response) : Type 0 where
  pub says : AllSay (lines_of input) said
  pub tells : AllTell (whole_lines output) told

-- the commands of the input in the order in which they are served
abbrev pub orders_of : List Meaning → List Order
orders_of said = in_order (phases said)

-- the stamps are those of the commands with their replies
pub record IsRecord (input output : List ℕ) (stamps : List Stamp) : Type 0 where
  pub said : List Meaning
  pub told : List Response
  pub read : AreRead input output said told
  pub paired : ArePaired (orders_of said) told
  pub stamps_are : stamps ≡ stamps_from first_bases (orders_of said) told

-- all lines are good, and the replies don't pair with the commands
pub record IsUnpaired (input output : List ℕ) : Type 0 where
  pub said : List Meaning
  pub told : List Response
  pub read : AreRead input output said told
  pub unpaired : ArePaired (orders_of said) told → ⊥

-- this line of the output is its first bad one, counted from 1 on behind the lines of the input, which are good
pub record IsBadReply (input output : List ℕ) (n : ℕ) : Type 0 where
  pub said : List Meaning
  pub says : AllSay (lines_of input) said
  pub line : ℕ
  pub bad : IsFirstUnread Tells line (whole_lines output)
  pub number : n ≡ length said + line

abbrev pub IsRecordFault : List ℕ → List ℕ → RecordFault → Type 0
IsRecordFault input output (BadLine n) = IsFirstBad n (lines_of input) ⊎ IsBadReply input output n
IsRecordFault input output Unpaired = IsUnpaired input output
IsRecordFault input output NoMemory = Unit {0}

-- the sessions of responses are those below SESSIONS
abbrev pub AreSessions : List Response → Type 0
AreSessions [] = Unit {0}
AreSessions (response ∷ responses) = (response.session < SESSIONS) × AreSessions responses

-- what a fault of the input is to a record
abbrev pub from_input : InputFault → RecordFault
from_input (inputs.BadLine n) = BadLine n
from_input inputs.NoMemory = NoMemory

-- the output isn't read from a line on, which is counted on from this many
abbrev pub IsOutputFault : ℕ → List (List ℕ) → RecordFault → Type 0
IsOutputFault before lines (BadLine n) = (line : ℕ) × IsFirstUnread Tells line lines × (n ≡ before + line)
IsOutputFault before lines Unpaired = ⊥
IsOutputFault before lines NoMemory = Unit {0}

-- the stamps of orders with their responses
pub record AreStamped (orders : List Order) (told : List Response) (stamps : List Stamp) : Type 0 where
  pub paired : ArePaired orders told
  pub stamps_are : stamps ≡ stamps_from first_bases orders told

abbrev pub IsPairFault : List Order → List Response → RecordFault → Type 0
IsPairFault orders told (BadLine n) = ⊥
IsPairFault orders told Unpaired = ArePaired orders told → ⊥
IsPairFault orders told NoMemory = Unit {0}

-- the orders of commands as they are served
abbrev pub served_orders : List Served → List Order
served_orders served = map (λ one. order_of one.command.now) served

-- the stamp of a command whose session starts here, with its reply
abbrev pub IsStampOf : ℕ → Command → Stamped → rust_stamp.Stamp → Type 0
IsStampOf base command stamped stamp = stamp_of stamp ≡ stamp_from base (order_of command) (response_of (command.session, stamped))

-- the stamps of served commands with replies
abbrev pub AreStampsOf : List Served → List (ℕ × Stamped) → List rust_stamp.Stamp → Type 0
AreStampsOf served replies stamps = AreStamped (served_orders served) (map response_of replies) (stamps_of stamps)

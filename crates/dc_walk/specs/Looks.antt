-- The question of a look-up.
use Rattle.std.specs.Prelude.{ℕ, List, Option}
use Rattle.dc_names.specs.Paths.{path_in}
use Rattle.dc_plain.specs.declared.call.Follow.{Follow}
use Rattle.dc_plain.specs.Facts.{Teller}
use Rattle.dc_plain.specs.Places.{walk}
use Rattle.dc_plain.specs.Resolution.{Outcome}
use Rattle.dc_plain.specs.Requests.{Request}
use Rattle.dc_plain.specs.Requests.Request.{Look}
use Rattle.dc_walk.specs.declared.look.Look as rust_look

-- the question as a request
abbrev pub look_shown : rust_look.Look → Request
look_shown look = Look look.base look.path.bytes.now look.follow

-- where the path leads by one who tells
abbrev pub outcome_by : ℕ → List ℕ → Follow → Teller → Option Outcome
outcome_by base text how teller = walk teller base (path_in text) how

-- and where that of a question does
abbrev pub outcome_of : rust_look.Look → Teller → Option Outcome
outcome_of look = outcome_by look.base look.path.bytes.now look.follow

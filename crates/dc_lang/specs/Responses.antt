-- What the line of a reply tells.
use Rattle.std.specs.Prelude.{◌≡◌, ℕ, ◌<◌, ◌^◌, List}
use Rattle.dc_plain.specs.declared.call.Stamped as rust_stamped
use Rattle.dc_plain.specs.Requests.{Answer, answer_of}
use Rattle.dc_plain.specs.Requests.Answer.{Found, Done, Nothing, Bytes, Names, Counted, Refused}
use Rattle.dc_names.specs.declared.limits.TheConstants.{SESSIONS}
use Rattle.dc_lang.specs.Replies.{reply_text}

-- a response: the session, its answer, and how many calls had altered the tree before
pub record Response : Type 0 where
  pub session : ℕ
  pub answer : Answer
  pub at : ℕ

-- the numbers of an answer have 64 bits
abbrev pub IsAnswer : Answer → Type 0
IsAnswer (Found number kind) = number < 2 ^ 64
IsAnswer (Done number) = number < 2 ^ 64
IsAnswer Nothing = Unit {0}
IsAnswer (Bytes bytes) = Unit {0}
IsAnswer (Names names) = Unit {0}
IsAnswer (Counted number kind count) = (number < 2 ^ 64) × (count < 2 ^ 64)
IsAnswer (Refused number) = number < 2 ^ 64

-- sessions are those below SESSIONS, and numbers have 64 bits
pub record IsResponse (response : Response) : Type 0 where
  pub session : response.session < SESSIONS
  pub answer : IsAnswer response.answer
  pub at : response.at < 2 ^ 64

-- a line, with its newline, tells this response
pub record Tells (line : List ℕ) (response : Response) : Type 0 where
  pub is : IsResponse response
  pub text : reply_text response.session response.answer response.at ≡ line

-- what a stamped reply of the program stands for, and one of a session
abbrev pub stamped_of : rust_stamped.Stamped → Answer × ℕ
stamped_of stamped = (answer_of stamped.reply, stamped.at)

abbrev pub response_of : ℕ × rust_stamped.Stamped → Response
response_of reply = record { session = reply.0; answer = answer_of reply.1.reply; at = reply.1.at }

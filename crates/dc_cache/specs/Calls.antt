-- The words for calls and their records, for contracts of a crate that lists this one alone.
use Rattle.std.specs.Prelude.{ℕ, Bool, List}
use Rattle.dc_plain.specs.Requests as requests
use Rattle.dc_plain.specs.Requests.Request.{Look, Readlink, Stat, List_names, Mkdir, Create, Hard_link, Symlink, Unlink, Rmdir, Rename}
use Rattle.dc_plain.specs.declared.call.Call.{Call}
use Rattle.dc_plain.specs.declared.call.Flags.{Flags}
use Rattle.dc_plain.specs.declared.call.Follow.{Follow}
use Rattle.dc_plain.specs.declared.call.Reply.{Reply}
use Rattle.dc_plain.specs.declared.call.Stamped as stamped
use Rattle.dc_events.specs.Views as views
use Rattle.dc_table.specs.Changes as changes

-- a call, by its numbers and bytes alone
abbrev pub Request : Type 0
Request = requests.Request

abbrev pub request_of : Call → Request
request_of call = requests.request_of call

-- a reply, by its numbers and bytes alone
abbrev pub Answer : Type 0
Answer = requests.Answer

abbrev pub answer_of : Reply → Answer
answer_of reply = requests.answer_of reply

-- a reply with its point
abbrev pub Stamped : Type 0
Stamped = stamped.Stamped

-- the request of a look-up, and those of the other calls
abbrev pub look : ℕ → List ℕ → Follow → Request
look base path how = Look base path how

abbrev pub stat : ℕ → List ℕ → Request
stat base path = Stat base path

abbrev pub readlink : ℕ → List ℕ → Request
readlink base path = Readlink base path

abbrev pub list : ℕ → List ℕ → Request
list base path = List_names base path

abbrev pub mkdir : ℕ → List ℕ → Request
mkdir base path = Mkdir base path

abbrev pub create : ℕ → List ℕ → Request
create base path = Create base path

abbrev pub link : ℕ → List ℕ → List ℕ → Request
link base old new = Hard_link base old new

abbrev pub symlink : ℕ → List ℕ → List ℕ → Request
symlink base text path = Symlink base text path

abbrev pub unlink : ℕ → List ℕ → Request
unlink base path = Unlink base path

abbrev pub rmdir : ℕ → List ℕ → Request
rmdir base path = Rmdir base path

abbrev pub rename : ℕ → List ℕ → List ℕ → Flags → Request
rename base old new flags = Rename base old new flags

-- what a pass keeps of an answered call: the call, its reply and point, and whether it altered the tree
abbrev pub Record : Type 0
Record = views.Record

abbrev pub record_of : Request → Stamped → Bool → Record
record_of call stamped altered = record { call = call; reply = answer_of stamped.reply; at = stamped.at; altered = altered }

-- nothing is recorded, and what was seen is seen still
abbrev pub NothingNew : views.View → views.View → Type 0
NothingNew v w = changes.NothingNew v w

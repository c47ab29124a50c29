-- What goes by a change, as a caller is told: the inode that stood at the name, and whether that was its last one.
use Rattle.std.specs.Prelude.{◌≡◌, ℕ, ◌==◌, ◌||◌, Bool, Option, None, option_map, Result, Ok, Err, IsTrue}
use Rattle.dc_plain.specs.Facts.{Target}
use Rattle.dc_plain.specs.Requests.{Request, Answer, answer_of}
use Rattle.dc_plain.specs.Requests.Answer.{Found, Done, Nothing, Bytes, Names, Counted, Refused}
use Rattle.dc_plain.specs.Resolution.{is_directory}
use Rattle.dc_plain.specs.Runs.{reply_of}
use Rattle.dc_plain.specs.Trees.{Tree, names_of}
use Rattle.dc_plain.specs.declared.call.Reply.{Reply}
use Rattle.dc_plain.specs.declared.call.Stamped.{Stamped}
use Rattle.dc_ops.specs.Taken.{taken, taken_by}
use Rattle.dc_ops.specs.declared.plans.Plan.{Plan}
use Rattle.dc_events.specs.Standing.{tree_of}
use Rattle.dc_table.specs.Passes as seats
use Rattle.dc_table.specs.Passes.{Pass as Seat}
use Rattle.dc_table.specs.Shares.{HadOnce}
use Rattle.dc_rows.specs.Outcomes.{Makes}
use Rattle.dc_rows.specs.declared.fault.ChangeFault.{ChangeFault}
use Rattle.dc_cache.specs.Answers.{Made}
use Rattle.dc_cache.specs.Passes.{known, share}
use Rattle.dc_cache.specs.declared.cache.Pass.{Pass}
use Rattle.dc_cache.specs.declared.gone.Gone.{Gone}

-- whether an inode goes with one of its names: a directory does, and another one that has one name
abbrev pub goes_with_a_name : Tree → Target → Bool
goes_with_a_name t place = is_directory place || names_of t place.0 == 1

-- what goes at a name that leads to this inode
abbrev pub gone_with : Tree → Option Target → Option Gone
gone_with t place = option_map (λ place. record { number = place.0; kind = place.1; last = goes_with_a_name t place }) place

-- what a call takes away from a tree, unless it is refused
abbrev pub gone_of : Tree → Request → Option Gone
gone_of t call = gone_with t (taken_by t call)

-- what goes by what a call came to: by a plan what it tells, and nothing by a reply
abbrev pub gone_by : Tree → Result Plan Reply → Option Gone
gone_by t (Ok plan) = gone_with t (taken plan)
gone_by t (Err reply) = None

-- nothing goes by a call that is refused
abbrev pub unless_refused : Answer → Option Gone → Option Gone
unless_refused (Refused number) lost = None
unless_refused (Found number kind) lost = lost
unless_refused (Done number) lost = lost
unless_refused Nothing lost = lost
unless_refused (Bytes bytes) lost = lost
unless_refused (Names names) lost = lost
unless_refused (Counted number kind count) lost = lost

-- nor by a change that isn't made
abbrev pub if_made : Result Stamped ChangeFault → Option Gone → Option Gone
if_made (Ok stamped) lost = unless_refused (answer_of stamped.reply) lost
if_made (Err fault) lost = None

-- an answer as its reply with its point
abbrev pub parted : Result Stamped ChangeFault → Result (Reply × ℕ) ChangeFault
parted (Ok stamped) = Ok (stamped.reply, stamped.at)
parted (Err fault) = Err fault

-- this is what a call takes away from a tree with this many inodes allowed, if it isn't refused there
abbrev pub Tells : ℕ → Tree → Request → Option Gone → Type 0
Tells limit t call going = unless_refused (reply_of limit t call) going ≡ unless_refused (reply_of limit t call) (gone_of t call)

-- under one hold of the lock a change was made, or wasn't; and this, if it is asked for, is what it takes away from the tree of that hold, if it isn't refused there
pub record MakesOnce (telling : Bool) (p q : Seat) (call : Request) (made : Result (Reply × ℕ) ChangeFault) (going : Option Gone) : Type 0 where
  pub once : HadOnce (seats.known p) (seats.known q)
  pub makes : Makes (seats.known q).got p q call made
  pub gone : IsTrue telling → Tells (seats.share p).limit (tree_of (seats.share p).limit (seats.known q).got.history) call going

-- under one hold of the lock a change was made, or wasn't, and the rows were left as after it: those of the keys that it touches tell what the tree has then, and all others are as they were
pub record LeavesWarm (p q : Pass) (call : Request) (result : Result Stamped ChangeFault) : Type 0 where
  pub once : HadOnce (known p) (known q)
  pub makes : Makes (known q).got p.seat q.seat call (parted result)

-- so it was, and what is told is what it took away from the tree after the history of that hold
pub record TakesAway (p q : Pass) (call : Request) (result : Result Stamped ChangeFault) (told : Option Gone) : Type 0 where
  pub made : Made p q call result
  pub warm : LeavesWarm p q call result
  pub gone : told ≡ if_made result (gone_of (tree_of (share p).limit (known q).got.history) call)

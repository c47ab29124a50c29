-- What a call comes to: a plan of its change, its refusal, or the reply that alters nothing.
use Rattle.std.specs.Prelude.{ℕ, List, Option, Result, IfOk, IfSome, MatchResult}
use Rattle.dc_names.specs.declared.refusal.Refusal.{Refusal}
use Rattle.dc_plain.specs.declared.call.Call as rust_call
use Rattle.dc_plain.specs.declared.call.Reply as rust_reply
use Rattle.dc_plain.specs.Operations.{change_of}
use Rattle.dc_plain.specs.Requests.{Request, answer_of, request_of}
use Rattle.dc_plain.specs.Requests.Request.{Look}
use Rattle.dc_plain.specs.declared.call.Follow.{Follow}
use Rattle.dc_plain.specs.Facts.{Teller}
use Rattle.dc_plain.specs.Tellers.{Extends}
use Rattle.dc_plain.specs.TouchedKeys.{listed}
use Rattle.dc_plain.specs.Trees.{Tree, told_of}
use Rattle.dc_ops.specs.Plans.{Declines, PlanTakesNoMemory, Plans, Settles, SettlesIf}
use Rattle.dc_ops.specs.Taken.{TakesNothing}
use Rattle.dc_ops.specs.declared.plans.Plan as rust_plan

-- a call's change comes to a plan with the keys that are listed for the call, or to its refusal
abbrev pub SettlesCall : ℕ → Tree → Request → Result rust_plan.Plan Refusal → Type 0
SettlesCall limit t request found = Settles t (change_of limit t request) (listed t request) found

-- or to nothing, as a rename between two names of one inode
abbrev pub SettlesCallIf : ℕ → Tree → Request → Result (Option rust_plan.Plan) Refusal → Type 0
SettlesCallIf limit t request found = SettlesIf t (change_of limit t request) (listed t request) found

-- likewise for a call by which no inode comes: no limit counts there, and 0 stands for any
abbrev pub SettlesUnlimited : Tree → Request → Result rust_plan.Plan Refusal → Type 0
SettlesUnlimited t request found = SettlesCall 0 t request found

-- and for one that may come to nothing
abbrev pub SettlesUnlimitedIf : Tree → Request → Result (Option rust_plan.Plan) Refusal → Type 0
SettlesUnlimitedIf t request found = SettlesCallIf 0 t request found

-- if a plan was found, it takes no memory
abbrev pub FoundTakesNoMemory : Result (Option rust_plan.Plan) Refusal → Type 0
FoundTakesNoMemory found = IfOk found (λ plan. IfSome plan (λ plan. PlanTakesNoMemory plan))

-- a call that leaves the tree as it is has this reply
abbrev pub DeclinesCall : ℕ → Tree → rust_call.Call → rust_reply.Reply → Type 0
DeclinesCall limit t call reply = Declines limit t (request_of call) (answer_of reply)

-- a call comes to a plan of its change, or to the reply of one that alters nothing: its refusal, or that of a call
-- by which nothing goes
abbrev pub IsPlanned : ℕ → Tree → Request → Result rust_plan.Plan rust_reply.Reply → Type 0
IsPlanned limit t request found = MatchResult found (Plans limit t request) (λ reply. Declines limit t request (answer_of reply) × TakesNothing t request (answer_of reply))

-- by what is said, a look-up has this reply on each tree that tells the same
abbrev pub RepliesBy : Teller → ℕ → List ℕ → Follow → rust_reply.Reply → Type 0
RepliesBy said base text how reply = (limit : ℕ) (t : Tree) → Extends said (told_of t) → Declines limit t (Look base text how) (answer_of reply)

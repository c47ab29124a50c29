-- What a change takes away: what stood at the name that goes, or that another inode gets.
use Rattle.std.specs.Option.{option_and_then}
use Rattle.std.specs.Result.{result_ok}
use Rattle.std.specs.Prelude.{◌≡◌, ℕ, List, Option, Some, None, if◌then◌else◌}
use Rattle.dc_plain.specs.Facts.{Target}
use Rattle.dc_plain.specs.Operations.{same_inode}
use Rattle.dc_plain.specs.Refusals.{walk_on}
use Rattle.dc_plain.specs.Requests.{Request, Answer}
use Rattle.dc_plain.specs.Requests.Answer.{Found, Done, Nothing, Bytes, Names, Counted, Refused}
use Rattle.dc_plain.specs.Requests.Request.{Look, Readlink, Stat, List_names, Mkdir, Create, Hard_link, Symlink, Unlink, Rmdir, Rename}
use Rattle.dc_plain.specs.Trees.{Tree}
use Rattle.dc_plain.specs.declared.call.Follow.TheVariants as follow
use Rattle.dc_ops.specs.declared.plans.Plan as rust_plan
use Rattle.dc_ops.specs.declared.plans.Plan.TheVariants as plans

-- what a path leads to, if anything; a last link isn't followed
abbrev pub leads_to : Tree → ℕ → List ℕ → Option Target
leads_to t base path = result_ok (walk_on t base path follow.No)

-- what stands where an inode is moved to, unless it is that inode
abbrev pub replaced : Option Target → Option Target → Option Target
replaced None there = None
replaced (Some moved) there = if same_inode moved there then None else there

-- what the name leads to that a call takes: that of an unlink or a rmdir, and the new one of a rename without exchange
abbrev pub taken_by : Tree → Request → Option Target
taken_by t (Unlink base path) = leads_to t base path
taken_by t (Rmdir base path) = leads_to t base path
taken_by t (Rename base old new flags) = if flags.exchange then None else replaced (leads_to t base old) (leads_to t base new)
taken_by t (Look base path how) = None
taken_by t (Readlink base path) = None
taken_by t (Stat base path) = None
taken_by t (List_names base path) = None
taken_by t (Mkdir base path) = None
taken_by t (Create base path) = None
taken_by t (Hard_link base old new) = None
taken_by t (Symlink base text path) = None

-- what a plan says that goes: what its name leads to, or what stands where it moves something
abbrev pub taken : rust_plan.Plan → Option Target
taken (plans.Add dir name new number) = None
taken (plans.Drop dir name number kind lost) = Some (number, kind)
taken (plans.Move from to number reparents over lost) = over
taken (plans.Swap from to first second) = None

-- nothing, if there is no plan
abbrev pub taken_if : Option rust_plan.Plan → Option Target
taken_if found = option_and_then taken found

-- nothing goes by a call with this answer, unless that is a refusal
abbrev pub TakesNothing : Tree → Request → Answer → Type 0
TakesNothing t request (Refused number) = Unit {0}
TakesNothing t request (Found number kind) = taken_by t request ≡ None
TakesNothing t request (Done number) = taken_by t request ≡ None
TakesNothing t request Nothing = taken_by t request ≡ None
TakesNothing t request (Bytes bytes) = taken_by t request ≡ None
TakesNothing t request (Names names) = taken_by t request ≡ None
TakesNothing t request (Counted number kind count) = taken_by t request ≡ None

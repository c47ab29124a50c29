-- The numbers that a program in C gives and gets.
use Rattle.std.specs.Prelude.{ℕ, zero, suc, ◌+◌, ◌-◌, ◌^◌, ℤ, pos, negsuc, min, length, List, sum_by, Option, Some, None, Bool, true, false, if◌then◌else◌}
use Rattle.std.specs.Global.{Vec}
use Rattle.dc_names.specs.declared.kind.Kind.{Kind}
use Rattle.dc_names.specs.declared.kind.Kind.TheVariants.{Dir, File, Link}
use Rattle.dc_names.specs.declared.limits.TheConstants.{MOST_ERRNO}
use Rattle.dc_names.specs.declared.sizes.MakeFault.{MakeFault}
use Rattle.dc_names.specs.declared.sizes.MakeFault.TheVariants as makes
use Rattle.dc_names.specs.Tables.{fit_a_table}
use Rattle.dc_plain.specs.declared.call.Flags.{Flags}
use Rattle.dc_plain.specs.declared.call.Follow.{Follow}
use Rattle.dc_plain.specs.declared.call.Follow.TheVariants as follows
use Rattle.dc_rows.specs.declared.fault.ChangeFault.{ChangeFault}
use Rattle.dc_rows.specs.declared.fault.ChangeFault.TheVariants as faults
use Rattle.dc_walk.specs.declared.why.Why.{Why}
use Rattle.dc_walk.specs.declared.why.Why.TheVariants as causes
use Rattle.dc_hold.specs.declared.status.Status.{Status}
use Rattle.dc_hold.specs.declared.status.Status.TheVariants as statuses

-- 0 of an answer, the number of an error of a refusal, at most the most that Linux has, and below 0 if nothing is recorded
abbrev pub status_number : Status → ℤ
status_number statuses.Done = pos 0
status_number (statuses.Refused number) = pos (min number MOST_ERRNO)
status_number statuses.Busy = negsuc 0
status_number statuses.Again = negsuc 1
status_number statuses.NoMemory = negsuc 2
status_number statuses.Spent = negsuc 3
status_number statuses.BadSize = negsuc 4
status_number statuses.BadPass = negsuc 5
status_number statuses.BadArgument = negsuc 6
status_number statuses.NotYet = negsuc 7
status_number statuses.NoRoom = negsuc 8

abbrev pub status_of_make : MakeFault → Status
status_of_make makes.BadSize = statuses.BadSize
status_of_make makes.NoMemory = statuses.NoMemory

-- why there is no cache of these sizes
abbrev pub status_of_sizes : ℕ → ℕ → Status
status_of_sizes buckets inodes = if fit_a_table buckets inodes then statuses.NoMemory else statuses.BadSize

-- whether this many changes were made
abbrev pub status_of_learn : Bool → Status
status_of_learn has_come = if has_come then statuses.Done else statuses.NotYet

abbrev pub status_of_fault : ChangeFault → Status
status_of_fault faults.NoMemory = statuses.NoMemory
status_of_fault faults.Spent = statuses.Spent

abbrev pub kind_number : Kind → ℕ
kind_number Dir = 1
kind_number File = 2
kind_number Link = 3

abbrev pub why_number : Why → ℕ
why_number (causes.Miss _) = 1
why_number (causes.Busy _) = 2
why_number (causes.Changed _ _ _) = 3
why_number causes.Long = 4
why_number causes.Link = 5
why_number causes.Memory = 1

abbrev pub follow_by : ℕ → Option Follow
follow_by zero = Some follows.Yes
follow_by (suc zero) = Some follows.No
follow_by (suc (suc zero)) = Some follows.Dir
follow_by (suc (suc (suc _))) = None

abbrev pub flags_by : ℕ → Option Flags
flags_by zero = Some (record { no_replace = false; exchange = false })
flags_by (suc zero) = Some (record { no_replace = true; exchange = false })
flags_by (suc (suc zero)) = Some (record { no_replace = false; exchange = true })
flags_by (suc (suc (suc zero))) = Some (record { no_replace = true; exchange = true })
flags_by (suc (suc (suc (suc _)))) = None

-- how many bytes names take with a zero byte behind each, as far as 64 bits tell it
abbrev pub bytes_of : List (Vec ℕ) → ℕ
bytes_of names = min (2 ^ 64 - 1) (sum_by (λ name. length name.items + 1) names)

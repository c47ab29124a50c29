-- What each answer of the cache is in numbers, for a program in C.
use Rattle.std.specs.Prelude.{ℕ, length, Bool, true, false, Option, Some, None, Result, Ok, Err}
use Rattle.dc_names.specs.declared.NoMemory.{NoMemory}
use Rattle.dc_plain.specs.declared.call.Reply.{Reply}
use Rattle.dc_plain.specs.declared.call.Reply.TheVariants as replies
use Rattle.dc_plain.specs.declared.call.Stamped.{Stamped}
use Rattle.dc_rows.specs.declared.fault.ChangeFault.{ChangeFault}
use Rattle.dc_walk.specs.declared.answer.Fast.{Fast}
use Rattle.dc_walk.specs.declared.answer.Fast.TheVariants as fasts
use Rattle.dc_walk.specs.declared.why.Why.{Why}
use Rattle.dc_cache.specs.declared.gone.Gone as cache
use Rattle.dc_cache.specs.declared.links.FastLink.{FastLink}
use Rattle.dc_cache.specs.declared.links.FastLink.TheVariants as links
use Rattle.dc_hold.specs.Numbers.{kind_number, why_number, status_of_fault}
use Rattle.dc_hold.specs.declared.status.Status.{Status}
use Rattle.dc_hold.specs.declared.status.Status.TheVariants as statuses
use Rattle.dc_hold.specs.declared.told.Gone.{Gone}
use Rattle.dc_hold.specs.declared.told.Told.{Told}

abbrev pub nothing : Status → Told
nothing status = record { status = status; found = record { number = 0; count = 0; at = 0; kind = 0; why = 0 } }

-- an inode with its kind and how many names it has, at a point
abbrev pub inode : Status → ℕ → ℕ → ℕ → ℕ → Told
inode status number kind count at = record { status = status; found = record { number = number; count = count; at = at; kind = kind; why = 0 } }

abbrev reply_told : Reply → ℕ → Told
reply_told (replies.Found number kind) at = inode statuses.Done number (kind_number kind) 0 at
reply_told (replies.Stat number kind count) at = inode statuses.Done number (kind_number kind) count at
reply_told (replies.Done number) at = inode statuses.Done number 0 0 at
reply_told (replies.Text text) at = inode statuses.Done 0 0 (length text.items) at
reply_told replies.Unit at = inode statuses.Done 0 0 0 at
reply_told (replies.Names _) at = inode statuses.Done 0 0 0 at
reply_told (replies.Refused number) at = inode (statuses.Refused number) 0 0 0 at

abbrev pub told_by : Stamped → Told
told_by stamped = reply_told stamped.reply stamped.at

-- the cause of a look-up that gives up, by its number
abbrev pub again : Why → Told
again why = record { status = statuses.Again; found = record { number = 0; count = 0; at = 0; kind = 0; why = why_number why } }

abbrev pub tells_fast : Fast → Told
tells_fast (fasts.Done stamped) = told_by stamped
tells_fast (fasts.Again why) = again why

-- a link that was found, by its number and kind
abbrev pub tells_link : FastLink → Told
tells_link (links.Refused stamped) = told_by stamped
tells_link (links.Link stamped) = told_by stamped
tells_link (links.Again why) = again why

abbrev pub tells_tried : Option Stamped → Told
tells_tried (Some stamped) = told_by stamped
tells_tried None = nothing statuses.Busy

abbrev pub tells_read : Option (Result Stamped NoMemory) → Told
tells_read (Some (Ok stamped)) = told_by stamped
tells_read (Some (Err _)) = nothing statuses.NoMemory
tells_read None = nothing statuses.Busy

abbrev pub tells_change : Option (Result Stamped ChangeFault) → Told
tells_change (Some (Ok stamped)) = told_by stamped
tells_change (Some (Err fault)) = nothing (status_of_fault fault)
tells_change None = nothing statuses.Busy

abbrev bit : Bool → ℕ
bit true = 1
bit false = 0

-- what a change took away; all 0 if nothing went
abbrev pub tells_gone : Option cache.Gone → Gone
tells_gone (Some gone) = record { number = gone.number; kind = kind_number gone.kind; last = bit gone.last }
tells_gone None = record { number = 0; kind = 0; last = 0 }

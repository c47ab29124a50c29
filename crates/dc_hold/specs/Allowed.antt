-- What each call of a hold may come to, from its pass before to its pass after.
use Rattle.std.specs.Prelude.{◌≡◌, ◌↔◌, ℕ, ◌+◌, ◌-◌, ◌*◌, ◌^◌, ◌≤◌, min, Bool, true, List, Option, Some, Result, Ok, MatchOption}
use Rattle.dc_names.specs.Tables.{fit_a_table}
use Rattle.dc_names.specs.declared.NoMemory.{NoMemory}
use Rattle.dc_names.specs.declared.limits.TheConstants.{BUCKET_ROWS, MOST_LOADS}
use Rattle.dc_plain.specs.declared.call.Follow.{Follow}
use Rattle.dc_plain.specs.declared.call.Reply.{Reply}
use Rattle.dc_plain.specs.declared.call.Reply.TheVariants as replies
use Rattle.dc_table.specs.Changes.{NothingNew}
use Rattle.dc_table.specs.Shares.{first_known, kept_half, new_half, HasNotTried}
use Rattle.dc_rows.specs.declared.fault.ChangeFault.{ChangeFault}
use Rattle.dc_walk.specs.Fasts.{Keeps}
use Rattle.dc_walk.specs.declared.answer.Fast as walk
use Rattle.dc_cache.specs.Answers.{Answered, IfFast, Loaded, Made, Told}
use Rattle.dc_cache.specs.Calls.{Request, Stamped, look}
use Rattle.dc_cache.specs.Links.{ReadsFast}
use Rattle.dc_cache.specs.Losses.{TakesAway}
use Rattle.dc_cache.specs.Passes.{buckets_of, known, view, FoundHeld, SameCache, Shrinks, WalkedAndFoundHeld}
use Rattle.dc_cache.specs.declared.cache.Pass.{Pass}
use Rattle.dc_cache.specs.declared.gone.Gone as cache
use Rattle.dc_cache.specs.declared.links.FastLink as links
use Rattle.dc_hold.specs.Buffers.{Read}
use Rattle.dc_hold.specs.Numbers.{bytes_of}

-- the first pass of a new cache has the whole of it, and has done and seen nothing
pub record IsFirst (buckets inodes : ℕ) (p : Pass) : Type 0 where
  pub sizes : fit_a_table buckets inodes ≡ true
  pub whole : known p ≡ first_known inodes (BUCKET_ROWS * buckets)

-- a pass was cut in two of one cache, and the other one has seen what it had
pub record IsSplit (p q other : Pass) : Type 0 where
  pub cache : SameCache q other
  pub kept : known q ≡ kept_half (known p)
  pub cut : known other ≡ new_half (known p)

-- what becomes of a link at a path's end
abbrev pub How : Type 0
How = Follow

-- a look-up by the rows alone: it doesn't try for the lock, makes at most this many loads, and gives up for a cause that it met
abbrev pub Fast : Type 0
Fast = walk.Fast

pub record MayFind (base : ℕ) (path : List ℕ) (how : How) (p q : Pass) (fast : Fast) : Type 0 where
  pub answered : IfFast p q (look base path how) fast
  pub keeps : Keeps base path how (buckets_of p) (view p) (view q) fast
  pub untried : HasNotTried (known p) (known q)
  pub loads : (view q).loads ≤ (view p).loads + MOST_LOADS

-- a readlink by the rows alone: it tells what the look-up tells that it records, or a cause, on the same terms
abbrev pub Link : Type 0
Link = links.FastLink

pub record MayReadFast (base : ℕ) (path : List ℕ) (p q : Pass) (fast : Link) : Type 0 where
  pub reads : ReadsFast base path (buckets_of p) (view p) (view q) fast
  pub untried : HasNotTried (known p) (known q)
  pub loads : (view q).loads ≤ (view p).loads + MOST_LOADS

-- a look-up that asks the tree, or a count, whose answers take no memory
abbrev pub MayLook : Request → Pass → Pass → Option Stamped → Type 0
MayLook call p q tried = MatchOption tried (FoundHeld p q) (Answered p q call)

-- a look-up by the rows, and if they don't answer by the tree
abbrev pub MayResolve : Request → Pass → Pass → Option Stamped → Type 0
MayResolve call p q tried = MatchOption tried (WalkedAndFoundHeld p q) (Answered p q call)

-- a change
abbrev pub Change : Type 0
Change = Result Stamped ChangeFault

abbrev pub MayMake : Request → Pass → Pass → Option Change → Type 0
MayMake call p q tried = MatchOption tried (WalkedAndFoundHeld p q) (Made p q call)

-- a change that may take a name away, with what it took
abbrev pub Taken : Type 0
Taken = Change × Option cache.Gone

abbrev pub MayTake : Request → Pass → Pass → Option Taken → Type 0
MayTake call p q tried = MatchOption tried (WalkedAndFoundHeld p q) (λ taken. TakesAway p q call taken.0 taken.1)

-- a read whose answer takes memory
abbrev pub MayRead : Request → Pass → Pass → Read → Type 0
MayRead call p q tried = MatchOption tried (FoundHeld p q) (Told p q call)

-- how many bytes the names take that were read
abbrev bytes_in : Reply → ℕ
bytes_in (replies.Names names) = bytes_of names.items
bytes_in _ = 0

abbrev pub bytes_told : Read → ℕ
bytes_told (Some (Ok stamped)) = bytes_in stamped.reply
bytes_told _ = 0

-- whether this many changes were made, by the clock that was loaded, as far as 64 bits tell it
pub record MayLearn (at : ℕ) (p q : Pass) (learnt : Bool × ℕ) : Type 0 where
  pub loaded : Loaded (view p) (view q)
  pub clock : learnt.1 ≡ min (2 ^ 64 - 1) (view q).book.seen
  pub come : (learnt.0 ≡ true) ↔ (at ≤ learnt.1)

-- nothing is recorded as rows are emptied, and this many are
abbrev pub MayShrink : ℕ → Pass → Pass → Option ℕ → Type 0
MayShrink most p q tried = MatchOption tried (FoundHeld p q) (λ many. NothingNew (view p) (view q) × Shrinks most many q)

-- The calls that the functions for C make: what each may come to, and what is written of it.
use Rattle.std.specs.Prelude.{◌≡◌, ◌⊎◌, ℕ, ℤ, length, List, Option, option_map, option_and_then, MatchOption, Bool, []}
use Rattle.dc_cache.specs.Calls.{Request, Stamped}
use Rattle.dc_cache.specs.Passes.{view}
use Rattle.dc_cache.specs.declared.cache.Pass.{Pass}
use Rattle.dc_hold.specs.Allowed.{Fast, How, Link, Change, Taken, MayFind, MayReadFast, MayLook, MayResolve, MayMake, MayTake, MayRead, MayLearn, MayShrink, IsFirst, IsSplit, bytes_told}
use Rattle.dc_hold.specs.Buffers.{Read, list_over, read_over}
use Rattle.dc_hold.specs.Numbers.{status_number, status_of_learn, status_of_sizes}
use Rattle.dc_hold.specs.declared.hold.Hold.{Hold}
use Rattle.dc_hold.specs.declared.status.Status.{Status}
use Rattle.dc_hold.specs.Tells.{tells_change, tells_fast, tells_gone, tells_link, tells_read, tells_tried}
use Rattle.dc_hold.specs.declared.status.Status.TheVariants as statuses
use Rattle.dc_hold.specs.declared.told.Found.{Found}
use Rattle.dc_hold.specs.declared.told.Gone.{Gone}
use Rattle.dc_hold.specs.declared.told.Told.{Told}
use Rattle.dc_c.specs.Answering.{Shows, Answers, Refuses}
use Rattle.dc_c.specs.Holding.{OnHold}
use Rattle.dc_c.specs.declared.handle.Handle.{Handle}

abbrev pub LooksFast : ℕ → List ℕ → How → Handle → Handle → ℤ → Found → Found → Type 0
LooksFast base path how = Answers Fast Found (MayFind base path how) (λ fast. Shows (tells_fast fast))

abbrev pub ReadsFast : ℕ → List ℕ → Handle → Handle → ℤ → Found → Found → Type 0
ReadsFast base path = Answers Link Found (MayReadFast base path) (λ fast. Shows (tells_link fast))

abbrev pub Looks : Request → Handle → Handle → ℤ → Found → Found → Type 0
Looks call = Answers (Option Stamped) Found (MayLook call) (λ tried. Shows (tells_tried tried))

abbrev pub Resolves : Request → Handle → Handle → ℤ → Found → Found → Type 0
Resolves call = Answers (Option Stamped) Found (MayResolve call) (λ tried. Shows (tells_tried tried))

abbrev pub Makes : Request → Handle → Handle → ℤ → Found → Found → Type 0
Makes call = Answers (Option Change) Found (MayMake call) (λ tried. Shows (tells_change tried))

-- what a change found, and what it took away
abbrev pub Written : Type 0
Written = Found × Gone

pub record ShowsTaken (tried : Option Taken) (number : ℤ) (written : Written) : Type 0 where
  pub made : Shows (tells_change (option_map (λ taken. taken.0) tried)) number written.0
  pub gone : written.1 ≡ tells_gone (option_and_then (λ taken. taken.1) tried)

abbrev pub Takes : Request → Handle → Handle → ℤ → Written → Written → Type 0
Takes call = Answers (Option Taken) Written (MayTake call) ShowsTaken

-- a text is written over what stood there
pub record ShowsText (buffer : List ℕ) (tried : Read) (number : ℤ) (written : Found × List ℕ) : Type 0 where
  pub read : Shows (tells_read tried) number written.0
  pub text : written.1 ≡ read_over buffer tried

abbrev pub ReadsText : Request → Handle → Handle → ℤ → Found × List ℕ → Found × List ℕ → Type 0
ReadsText call old new number before = Answers Read (Found × List ℕ) (MayRead call) (ShowsText before.1) old new number before

-- of names the count is how many bytes they take
abbrev pub tells_list : Read → Told
tells_list tried = let told = tells_read tried in record told { found = record told.found { count = bytes_told tried } }

-- names are written over what stood there
pub record ShowsNames (buffer : List ℕ) (tried : Read) (number : ℤ) (written : Found × List ℕ) : Type 0 where
  pub read : Shows (tells_list tried) number written.0
  pub same : length written.1 ≡ length buffer
  pub names : written.1 ≡ list_over buffer tried

abbrev pub Lists : Request → Handle → Handle → ℤ → Found × List ℕ → Found × List ℕ → Type 0
Lists call old new number before = Answers Read (Found × List ℕ) (MayRead call) (ShowsNames before.1) old new number before

-- the clock is written
pub record ShowsClock (learnt : Bool × ℕ) (number : ℤ) (written : ℕ) : Type 0 where
  pub status : number ≡ status_number (status_of_learn learnt.0)
  pub clock : written ≡ learnt.1

abbrev pub Learns : ℕ → Handle → Handle → ℤ → ℕ → ℕ → Type 0
Learns at = Answers (Bool × ℕ) ℕ (MayLearn at) ShowsClock

-- how many rows were emptied is written, if the pass had the lock
abbrev pub ShowsMany : ℕ → Option ℕ → ℤ → ℕ → Type 0
ShowsMany before tried number written = MatchOption tried ((number ≡ status_number statuses.Busy) × (written ≡ before)) (λ many. (number ≡ status_number statuses.Done) × (written ≡ many))

abbrev pub Shrinks : ℕ → Handle → Handle → ℤ → ℕ → ℕ → Type 0
Shrinks most old new number before = Answers (Option ℕ) ℕ (MayShrink most) (ShowsMany before) old new number before

-- the hold stays as it is, and what it counts is written; no clause says what it counts
pub record ShowsCount (counted : ℕ) (number : ℤ) (written : ℕ) : Type 0 where
  pub status : number ≡ status_number statuses.Done
  pub count : written ≡ counted

abbrev pub Counts : Handle → Handle → ℤ → ℕ → ℕ → Type 0
Counts = Answers ℕ ℕ (λ p q count. q ≡ p) ShowsCount

-- a pass that was open is blank then
abbrev pub Closes : Handle → Handle → ℤ → Type 0
Closes old new number = (new.held.holds ≡ []) × OnHold old.held.holds (number ≡ status_number statuses.BadPass) (λ hold. number ≡ status_number statuses.Done)

-- a handle that was blank has such a hold, or is blank still, and the number says why
abbrev pub Opens : (Hold → Type 0) → Status → List Hold → ℤ → Type 0
Opens Is why holds number = OnHold holds (number ≡ status_number why) (λ hold. Is hold × (number ≡ status_number statuses.Done))

-- a blank handle gets the first hold of a new cache, and an open one is refused
abbrev pub Begins : ℕ → ℕ → Handle → Handle → ℤ → Type 0
Begins buckets inodes old new number = OnHold old.held.holds (Opens (λ hold. IsFirst buckets inodes hold.pass) (status_of_sizes buckets inodes) new.held.holds number)
    (λ _. (new.held.holds ≡ old.held.holds) × (number ≡ status_number statuses.BadPass))

-- another hold was cut off, or the pass has done and seen what it had
abbrev pub MaySplit : Pass → Pass → List Hold → Type 0
MaySplit p q holds = OnHold holds (view q ≡ view p) (λ other. IsSplit p q other.pass)

abbrev pub ShowsSplit : List Hold → ℤ → List Hold → Type 0
ShowsSplit holds number written = (written ≡ holds) × OnHold holds (number ≡ status_number statuses.NoMemory) (λ _. number ≡ status_number statuses.Done)

-- a blank handle gets the hold that is cut off; before that an open one is refused
abbrev pub Splits : Handle → Handle → ℤ → List Hold → List Hold → Type 0
Splits old new number before written = OnHold before (Answers (List Hold) (List Hold) MaySplit ShowsSplit old new number before written)
    (λ _. Refuses (List Hold) statuses.BadPass old new number before written)

-- a second handle is blank, since its hold ended before the first one's learns how many changes were made
abbrev pub ShowsEnd : Bool × ℕ → ℤ → List Hold → Type 0
ShowsEnd learnt number written = (number ≡ status_number statuses.Done) × (written ≡ [])

abbrev pub Ends : Handle → Handle → ℤ → List Hold → List Hold → Type 0
Ends old new number before written = OnHold before ⊥ (λ _. Answers (Bool × ℕ) (List Hold) (MayLearn 0) ShowsEnd old new number before written)

-- of two open handles the second is ended; or both stay as they were, as they do if one of them is blank
abbrev pub Joins : Handle → Handle → ℤ → List Hold → List Hold → Type 0
Joins old new number before written = Refuses (List Hold) statuses.BadPass old new number before written ⊎ Ends old new number before written

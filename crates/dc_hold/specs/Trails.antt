-- A look-up that tells the directories in which its path asks: what it may come to, and what it is in numbers for a program in C.
use Rattle.std.specs.Prelude.{◌≡◌, ℕ, ◌+◌, List, Option, Some, None, Result, Ok, Err, MatchOption, length}
use Rattle.dc_names.specs.Paths.{fault_of}
use Rattle.dc_table.specs.Shares.{HasNotTried}
use Rattle.dc_cache.specs.Answers.{Answered}
use Rattle.dc_cache.specs.Calls.{Stamped, look}
use Rattle.dc_cache.specs.Passes.{known, view, WalkedAndFoundHeld}
use Rattle.dc_cache.specs.Trails.{FindsAlong as FindsIn, LooksAlong}
use Rattle.dc_cache.specs.declared.along.TooFewPlaces.{TooFewPlaces}
use Rattle.dc_cache.specs.declared.cache.Pass.{Pass}
use Rattle.dc_hold.specs.Allowed.{How}
use Rattle.dc_walk.specs.declared.along.FastAlong as walk
use Rattle.dc_walk.specs.declared.along.FastAlong.TheVariants as alongs
use Rattle.dc_hold.specs.Tells.{again, nothing, told_by}
use Rattle.dc_hold.specs.declared.status.Status.TheVariants as statuses
use Rattle.dc_hold.specs.declared.told.Told.{Told}

-- an answer with the length of its trail, if there were places enough and no other pass had the lock
abbrev pub Along : Type 0
Along = Option (Result (Stamped × ℕ) TooFewPlaces)

-- of a path the first places have its trail on the tree of its answer, or it is longer than there are places; or the rows don't answer, and the lock was held
abbrev pub TriesAlong : ℕ → List ℕ → How → Pass → Pass → Along × List ℕ → Type 0
TriesAlong base path how p q told = MatchOption told.0 (WalkedAndFoundHeld p q) (LooksAlong p q base path how told.1)

-- a text that is no path is refused by one load and no try for the lock; its trail is empty, and the places stay
pub record RefusesText (A : Type 0) (refusal : Stamped → A) (base : ℕ) (text : List ℕ) (how : How) (before : List ℕ) (p q : Pass) (told : A × List ℕ) : Type 0 where
  pub refused : Stamped
  pub empty : told ≡ (refusal refused, before)
  pub answered : Answered p q (look base text how) refused
  pub untried : HasNotTried (known p) (known q)
  pub load : (view q).loads ≡ (view p).loads + 1

-- what it may come to, with the caller's places, which stay as many
pub record MayLookAlong (base : ℕ) (text : List ℕ) (how : How) (before : List ℕ) (p q : Pass) (told : Along × List ℕ) : Type 0 where
  pub places : length told.1 ≡ length before
  pub comes : MatchOption (fault_of text) (TriesAlong base text how p q told) (λ _. RefusesText Along (λ refused. Some (Ok (refused, 0))) base text how before p q told)

-- the same by the rows alone
abbrev pub FastAlong : Type 0
FastAlong = walk.FastAlong

pub record MayFindAlong (base : ℕ) (text : List ℕ) (how : How) (before : List ℕ) (p q : Pass) (told : FastAlong × List ℕ) : Type 0 where
  pub places : length told.1 ≡ length before
  pub untried : HasNotTried (known p) (known q)
  pub comes : MatchOption (fault_of text) (FindsIn p q base text how told.1 told.0) (λ _. RefusesText FastAlong (λ refused. alongs.Done refused 0) base text how before p q told)

-- an answer, with the length of its trail as the count
abbrev pub tells_along : Along → Told
tells_along (Some (Ok told)) = let by = told_by told.0 in record by { found = record by.found { count = told.1 } }
tells_along (Some (Err _)) = nothing statuses.NoRoom
tells_along None = nothing statuses.Busy

abbrev pub tells_fast_along : FastAlong → Told
tells_fast_along (alongs.Done stamped many) = let by = told_by stamped in record by { found = record by.found { count = many } }
tells_fast_along (alongs.Again why) = again why
tells_fast_along alongs.TooFewPlaces = nothing statuses.NoRoom

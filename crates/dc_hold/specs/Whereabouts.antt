-- Where a directory is, as a hold tells it, and in numbers and bytes for a program in C.
use Rattle.std.specs.Prelude.{◌≡◌, ℕ, ◌-◌, ◌++◌, take, drop, List, Option, Some, None, Result, Ok, Err, MatchOption}
use Rattle.dc_names.specs.Refusals.{refusal_number}
use Rattle.dc_names.specs.declared.kind.Kind.TheVariants.{Dir}
use Rattle.dc_names.specs.declared.limits.TheConstants.{PATH_MAX}
use Rattle.dc_names.specs.declared.refusal.Refusal.{Refusal}
use Rattle.dc_cache.specs.Passes.{FoundHeld}
use Rattle.dc_cache.specs.Whereabouts.{Locates}
use Rattle.dc_cache.specs.declared.cache.Pass.{Pass}
use Rattle.dc_cache.specs.declared.whereabouts.Whereabouts as cache
use Rattle.dc_hold.specs.Numbers.{kind_number}
use Rattle.dc_hold.specs.Tells.{inode, nothing}
use Rattle.dc_hold.specs.declared.status.Status.TheVariants as statuses
use Rattle.dc_hold.specs.declared.told.Told.{Told}

-- where a directory is, unless another pass had the lock
abbrev pub Located : Type 0
Located = Option cache.Whereabouts

-- that, with the buffer that the path was written to
abbrev pub MayLocate : ℕ → List ℕ → Pass → Pass → Located × List ℕ → Type 0
MayLocate number before p q told = MatchOption told.0 (FoundHeld p q × (told.1 ≡ before)) (Locates p q number told.1)

-- a directory with the length of its path, or the refusal
abbrev told_at : ℕ → ℕ → Result ℕ Refusal → Told
told_at number at (Ok start) = inode statuses.Done number (kind_number Dir) (PATH_MAX - start) at
told_at number at (Err refusal) = inode (statuses.Refused (refusal_number refusal)) 0 0 0 at

abbrev pub tells_where : ℕ → Located → Told
tells_where number (Some told) = told_at number told.at told.start
tells_where number None = nothing statuses.Busy

-- the path from the front on, and behind it what stood before it
abbrev turned : List ℕ → Result ℕ Refusal → List ℕ
turned bytes (Ok start) = drop start bytes ++ take start bytes
turned bytes (Err refusal) = bytes

abbrev pub path_over : List ℕ → Located → List ℕ
path_over bytes (Some told) = turned bytes told.start
path_over bytes None = bytes

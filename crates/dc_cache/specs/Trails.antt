-- What a look-up comes to that tells what it passed through.
use Rattle.std.specs.Prelude.{◌≡◌, ◌⊎◌, ℕ, ◌≤◌, List, Result, Ok, Err, length, take}
use Rattle.dc_names.specs.Paths.{path_in}
use Rattle.dc_plain.specs.declared.call.Follow.{Follow}
use Rattle.dc_plain.specs.declared.call.Stamped.{Stamped}
use Rattle.dc_plain.specs.Requests.{Request, answer_of}
use Rattle.dc_plain.specs.Requests.Request.{Look}
use Rattle.dc_plain.specs.Trees.{Tree, told_of}
use Rattle.dc_events.specs.Standing.{tree_of}
use Rattle.dc_events.specs.Views.{View}
use Rattle.dc_table.specs.Changes.{NothingNew, Recorded}
use Rattle.dc_trail.specs.Keeping.{HasLongerTrail}
use Rattle.dc_trail.specs.Places.{HasTrail}
use Rattle.dc_cache.specs.Passes.{known, share, view}
use Rattle.dc_walk.specs.Trails as walks
use Rattle.dc_walk.specs.declared.along.FastAlong.{FastAlong}
use Rattle.dc_walk.specs.declared.along.FastAlong.TheVariants as alongs
use Rattle.dc_cache.specs.Holds.{FillsOnce}
use Rattle.dc_table.specs.Shares.{HasNotTried}
use Rattle.dc_cache.specs.declared.along.TooFewPlaces.{TooFewPlaces}
use Rattle.dc_cache.specs.declared.cache.Pass.{Pass}

-- a look-up was recorded, and its trail is that on the tree after this history
pub record ToldAlong (limit : ℕ) (history : List Request) (v w : View) (base : ℕ) (text : List ℕ) (how : Follow) (places : List ℕ) (told : Stamped × ℕ) : Type 0 where
  pub recorded : Recorded v w (Look base text how) (answer_of told.0.reply) told.0.at
  pub has : HasTrail (tree_of limit history) base text how places told.1

-- nothing is recorded, and the trail on that tree is longer than there are places
pub record LacksPlaces (limit : ℕ) (history : List Request) (v w : View) (base : ℕ) (text : List ℕ) (how : Follow) (places : List ℕ) : Type 0 where
  pub nothing : NothingNew v w
  pub longer : HasLongerTrail (told_of (tree_of limit history)) base text how (length places)

abbrev pub ToldAlongTo : ℕ → List Request → View → View → ℕ → List ℕ → Follow → List ℕ → Result (Stamped × ℕ) TooFewPlaces → Type 0
ToldAlongTo limit history v w base text how places (Ok told) = ToldAlong limit history v w base text how places told
ToldAlongTo limit history v w base text how places (Err fault) = LacksPlaces limit history v w base text how places

-- the look-up found its answer and its trail by rows, or gave up, without a try for the lock
abbrev pub FindsAlong : Pass → Pass → ℕ → List ℕ → Follow → List ℕ → FastAlong → Type 0
FindsAlong p q base text how places told = walks.FindsAlong base text how p.seat q.seat places told

-- likewise for a pass, by the history with which it got the lock for this call
abbrev pub TellsAlong : Pass → Pass → ℕ → List ℕ → Follow → List ℕ → Result (Stamped × ℕ) TooFewPlaces → Type 0
TellsAlong p q base text how places told = ToldAlongTo (share p).limit (known q).got.history (view p) (view q) base text how places told

-- an answer of one of these, by rows alone
abbrev pub AnsweredByRows : Pass → Pass → ℕ → List ℕ → Follow → List ℕ → Result (Stamped × ℕ) TooFewPlaces → Type 0
AnsweredByRows p q base text how places (Ok told) = HasNotTried (known p) (known q) × FindsAlong p q base text how places (alongs.Done told.0 told.1)
AnsweredByRows p q base text how places (Err fault) = ⊥

-- a look-up along its trail: by rows alone, else under one hold of the lock, which leaves the pins as they were
abbrev pub LooksAlong : Pass → Pass → ℕ → List ℕ → Follow → List ℕ → Result (Stamped × ℕ) TooFewPlaces → Type 0
LooksAlong p q base text how places told = AnsweredByRows p q base text how places told ⊎ (FillsOnce (known p) (known q) × TellsAlong p q base text how places told)

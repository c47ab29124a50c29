-- What a walk that keeps its trail makes of its finder.
use Rattle.std.specs.Prelude.{◌≡◌, ℕ, ◌≤◌, ◌<◌, List, [], ◌∷◌, ◌++◌, false, Option, IsSome, Result, Ok, Err, length, take, if◌then◌else◌}
use Rattle.std.proofs.Common.{refl, ◌∙◌}
use Rattle.dc_names.specs.Paths.{path_in}
use Rattle.dc_plain.specs.declared.call.Follow.{Follow}
use Rattle.dc_plain.specs.Facts.{Teller, Label}
use Rattle.dc_plain.specs.Resolution.{Outcome}
use Rattle.dc_plain.specs.Tellers.{Extends}
use Rattle.dc_resolve.specs.Ends.{walk_by}
use Rattle.dc_resolve.specs.Needs.{IsNeeded}
use Rattle.dc_resolve.specs.declared.finder.Finder.{Ghosts}
use Rattle.dc_trail.specs.Parts.{within, NeedsDir, NeedsInTurn}
use Rattle.dc_trail.specs.Questions.{is_among, trail_of}
use Rattle.dc_trail.specs.declared.halt.Halt.{Halt}
use Rattle.dc_trail.specs.declared.halt.Halt.TheVariants as halts
use Rattle.dc_trail.specs.declared.trailed.Trailed.{Trailed}

-- a directory behind those that were seen, unless it is among them
abbrev pub entered : List ℕ → ℕ → List ℕ
entered dirs d = if is_among dirs d then dirs else dirs ++ d ∷ []

abbrev pub trail_in : {F : Type 0} → Trailed F → List ℕ
trail_in f = take f.len f.numbers.now

abbrev pub outcome_in : {F : Type 0} → Trailed F → Teller → Option Outcome
outcome_in f = walk_by f.question.base f.question.path.bytes.now f.question.follow

-- the same walk, with the same finder and the same places
pub record SameWalk {F : Type 0} (f h : Trailed F) : Type 0 where
  pub finder : h.finder.ghost_name ≡ f.finder.ghost_name
  pub numbers : h.numbers.ghost_name ≡ f.numbers.ghost_name
  pub question : h.question ≡ f.question
  pub places : length h.numbers.now ≡ length f.numbers.now

module _ {F T S : Type 0} (g : Ghosts F T S) where
  -- what its finder has said of the directories of the trail
  abbrev pub said_in : Trailed F → Teller
  said_in f = within (trail_in f) (g.said f.finder.now)

  -- the outcome needs the directories of the trail in turn
  pub record IsKept (f : Trailed F) : Type 0 where
    pub few : f.len ≤ length f.numbers.now
    pub turn : NeedsInTurn (outcome_in f) (g.said f.finder.now) [] (trail_in f)

  pub record MayAskAlong (f : Trailed F) (n : ℕ) (label : Label) : Type 0 where
    pub kept : IsKept f
    pub may : g.may_ask f.finder.now n label
    pub needed : IsNeeded (outcome_in f) (said_in f) n label

  -- it answered
  pub record Goes (f h : Trailed F) : Type 0 where
    pub same : SameWalk f h
    pub becomes : g.becomes f.finder.now h.finder.now
    pub told : Extends (said_in f) (said_in h)
    pub kept : IsKept f → IsKept h

  -- all places are taken, and the outcome needs one directory more
  pub record IsFull (f : Trailed F) : Type 0 where
    pub kept : IsKept f
    pub full : f.len ≡ length f.numbers.now
    pub next : ℕ
    pub new : is_among (trail_in f) next ≡ false
    pub needed : NeedsDir (outcome_in f) (said_in f) next

  abbrev pub StopsFor : Trailed F → Trailed F → Halt S → Type 0
  StopsFor f h (halts.Finder why) = g.stops f.finder.now h.finder.now why
  StopsFor f h halts.Full = g.becomes f.finder.now h.finder.now × IsFull h

  -- it gave up
  pub record Halts (f h : Trailed F) (halt : Halt S) : Type 0 where
    pub same : SameWalk f h
    pub stops : StopsFor f h halt

  -- what the finder itself became, or why it gave up
  abbrev pub FinderHalts : F → F → Halt S → Type 0
  FinderHalts old new (halts.Finder why) = g.stops old new why
  FinderHalts old new halts.Full = g.becomes old new

  abbrev pub FinderKept : {A : Type 0} → F → F → Result A (Halt S) → Type 0
  FinderKept old new (Ok a) = g.becomes old new
  FinderKept old new (Err halt) = FinderHalts old new halt

-- by what was said, and whatever else may be told later, this is the trail of a path
abbrev pub IsTrailBy : Teller → ℕ → List ℕ → Follow → List ℕ → Type 0
IsTrailBy said base text how dirs = (teller : Teller) → Extends said teller → trail_of teller base (path_in text) how ≡ dirs

-- by what was said, and whatever else may be told later, a path that leads anywhere has a trail longer than this
abbrev pub HasLongerTrail : Teller → ℕ → List ℕ → Follow → ℕ → Type 0
HasLongerTrail said base text how places = (teller : Teller) → Extends said teller → IsSome (walk_by base text how teller) → places < length (trail_of teller base (path_in text) how)

-- so it is if a walk gave up because its trail has too few places
abbrev pub IfNoPlace : {S : Type 0} → Halt S → Type 0 → Type 0
IfNoPlace (halts.Finder why) So = Unit {0}
IfNoPlace halts.Full So = So

abbrev pub IfFull : {A S : Type 0} → Result A (Halt S) → Type 0 → Type 0
IfFull (Ok a) So = Unit {0}
IfFull (Err halt) So = IfNoPlace halt So

pub tells_itself : (teller : Teller) → Extends teller teller
tells_itself teller = record { entry = λ d label found told. told; text = λ n bytes told. told }

pub same_walk : {F : Type 0} (f : Trailed F) → SameWalk f f
same_walk f = record { finder = refl; numbers = refl; question = refl; places = refl }

pub same_again : {F : Type 0} {f h k : Trailed F} → SameWalk f h → SameWalk h k → SameWalk f k
same_again p q = record {
  finder = q.finder ∙ p.finder;
  numbers = q.numbers ∙ p.numbers;
  question = q.question ∙ p.question;
  places = q.places ∙ p.places;
}

module _ {F T S : Type 0} (g : Ghosts F T S) where
  pub stays_so : ((a : F) → g.becomes a a) → (f : Trailed F) → Goes g f f
  stays_so stays f = record { same = same_walk f; becomes = stays f.finder.now; told = tells_itself (said_in g f); kept = λ is. is }

  pub goes_so : ((a b c : F) → g.becomes a b → g.becomes b c → g.becomes a c) → (f h k : Trailed F) → Goes g f h → Goes g h k → Goes g f k
  goes_so goes_on f h k p q = record {
    same = same_again p.same q.same;
    becomes = goes_on f.finder.now h.finder.now k.finder.now p.becomes q.becomes;
    told = record {
      entry = λ d label found told. q.told.entry d label found (p.told.entry d label found told);
      text = λ n bytes told. q.told.text n bytes (p.told.text n bytes told);
    };
    kept = λ is. q.kept (p.kept is);
  }

  halts_for : ((a b c : F) → g.becomes a b → g.becomes b c → g.becomes a c) → ((a b c : F) (why : S) → g.becomes a b → g.stops b c why → g.stops a c why)
      → (f h k : Trailed F) (halt : Halt S) → Goes g f h → StopsFor g h k halt → StopsFor g f k halt
  halts_for goes_on stops_later f h k (halts.Finder why) p q = stops_later f.finder.now h.finder.now k.finder.now why p.becomes q
  halts_for goes_on stops_later f h k halts.Full p q = (goes_on f.finder.now h.finder.now k.finder.now p.becomes q.0, q.1)

  pub halts_so : ((a b c : F) → g.becomes a b → g.becomes b c → g.becomes a c) → ((a b c : F) (why : S) → g.becomes a b → g.stops b c why → g.stops a c why)
      → (f h k : Trailed F) (halt : Halt S) → Goes g f h → Halts g h k halt → Halts g f k halt
  halts_so goes_on stops_later f h k halt p q = record {
    same = same_again p.same q.same;
    stops = halts_for goes_on stops_later f h k halt p q.stops;
  }

  pub keeps_so : (f h : Trailed F) → Goes g f h → Extends (said_in g f) (said_in g h)
  keeps_so f h p = p.told

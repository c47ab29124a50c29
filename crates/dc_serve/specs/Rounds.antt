-- What a pass has taken in, phase by phase, and what was written.
use Rattle.std.specs.Prelude.{◌≡◌, ℕ, ◌≤◌, List, [], ◌∷◌, ◌++◌, length, map, take, Option}
use Rattle.std.specs.Io.KnownBytes.{Appends}
use Rattle.std.specs.List.{flat_map}
use Rattle.dc_events.specs.Views.{Record}
use Rattle.dc_lang.specs.Commands.{Order}
use Rattle.dc_names.specs.declared.limits.TheConstants.{MOST_COUNT, SESSIONS}
use Rattle.dc_table.specs.Shares.{IsWhole, Known}
use Rattle.dc_serve.specs.Bytes.{AppendsFront}
use Rattle.dc_lang.specs.Phases.{by_session, in_order}
use Rattle.dc_lang.specs.Bases.{first_bases}
use Rattle.dc_serve.specs.Sessions.{AllRise, Between, present, size}
use Rattle.dc_serve.specs.Turns.{AsAsked, Turn, all_of, bases_then, orders_of, text_of}
use Rattle.dc_serve.specs.declared.fault.ServeFault.{ServeFault}
use Rattle.dc_serve.specs.declared.fault.ServeFault.TheVariants.{NoMemory, Spent, Write}

-- each phase's records rise between two clocks
abbrev pub Rounds : ℕ → List (List Turn) → ℕ → Type 0
Rounds p [] q = p ≤ q
Rounds p (turns ∷ rest) q = (m : ℕ) × Between p m turns × Rounds m rest q

-- the first pass has taken in the records of these phases up to a clock, and then more
pub record Holds (limit : ℕ) (phases : List (List Order)) (turns : List (List Turn)) (clock : ℕ) (more : List (List Record)) (k : Known) : Type 0 where
  pub orders_are : map orders_of turns ≡ map by_session phases
  pub asked : AsAsked first_bases (all_of turns)
  pub own : k.view.book.own ≡ []
  pub joined : k.view.book.joined ≡ flat_map (present SESSIONS) turns ++ more
  pub rounds : Rounds 0 turns clock
  pub rise : AllRise clock more
  pub limit_is : k.share.limit ≡ limit
  pub whole : IsWhole k.share

-- all of these phases were served and written, and the sessions start here
pub record Goes (limit : ℕ) (bases : List ℕ) (phases : List (List Order)) (old new : Option (List ℕ)) (k : Known) : Type 0 where
  pub turns : List (List Turn)
  pub holds : Holds limit phases turns k.view.book.seen [] k
  pub last : bases ≡ bases_then first_bases (all_of turns)
  pub few : size k.view.book.joined ≤ length (in_order phases)
  pub written : Appends old new (text_of (all_of turns))

-- these phases were served, more calls may have been made since, and the text of the replies was written so
pub record Wrote (limit : ℕ) (phases : List (List Order)) (Written : List ℕ → Type 0) (k : Known) : Type 0 where
  pub turns : List (List Turn)
  pub clock : ℕ
  pub more : List (List Record)
  pub holds : Holds limit phases turns clock more k
  pub written : Written (text_of (all_of turns))

-- the clock got as far as it may, by no more records than there are orders
pub record IsSpent (phases : List (List Order)) (k : Known) : Type 0 where
  pub seen : MOST_COUNT ≤ k.view.book.seen
  pub own : k.view.book.own ≡ []
  pub few : size k.view.book.joined ≤ length (in_order phases)
  pub whole : IsWhole k.share

-- how serving stops by a fault
abbrev pub StopsBy : ℕ → List (List Order) → Option (List ℕ) → Option (List ℕ) → Known → ServeFault → Type 0
StopsBy limit phases old new k NoMemory = (count : ℕ) × Wrote limit (take count phases) (Appends old new) k
StopsBy limit phases old new k Spent = IsSpent phases k
StopsBy limit phases old new k Write = (count : ℕ) × Wrote limit (take count phases) (AppendsFront old new) k
StopsBy limit phases old new k _ = ⊥

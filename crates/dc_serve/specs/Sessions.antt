-- What a session's pass has recorded, and what the pass of a phase has taken in.
use Rattle.std.specs.Prelude.{◌≡◌, ℕ, zero, suc, ◌+◌, ◌*◌, ◌^◌, ◌≤◌, List, [], ◌∷◌, ◌++◌, length}
use Rattle.dc_events.specs.Standing.{Rising, ends}
use Rattle.dc_events.specs.Views.{Book, Record}
use Rattle.dc_lang.specs.Commands.{Order, request_from}
use Rattle.dc_table.specs.Shares.{Share}
use Rattle.dc_lang.specs.Phases.{of_sessions}
use Rattle.dc_lang.specs.Bases.{base_after}
use Rattle.dc_serve.specs.Turns.{AsAsked, Turn, bases_then, orders_of, records_of, strand, text_of}

-- these calls were recorded, none at a point before what had been seen
pub record RecordedAll (a : Book) (records : List Record) (b : Book) : Type 0 where
  pub own : b.own ≡ a.own ++ records
  pub joined : b.joined ≡ a.joined
  pub rising : Rising a.seen records
  pub within : ends a.seen records ≤ b.seen

-- each call is what its order asks for from where the session starts, which is at last here
abbrev pub AskedBy : ℕ → List Turn → ℕ → Type 0
AskedBy base [] last = last ≡ base
AskedBy base (t ∷ turns) last = (t.made.call ≡ request_from base t.order) × AskedBy (base_after t.order.verb t.made.reply base) turns last

-- the text that a session was answered so far, and where it starts
pub record Progress : Type 0 where
  pub text : List ℕ
  pub base : ℕ

abbrev pub progress : List ℕ → ℕ → Progress
progress text base = record { text = text; base = base }

-- these orders were answered, and their lines added to the text
pub record Obeyed (a : Book) (before : Progress) (orders : List Order) (then : Progress) (b : Book) : Type 0 where
  pub turns : List Turn
  pub orders_are : orders_of turns ≡ orders
  pub asked : AskedBy before.base turns then.base
  pub told : then.text ≡ before.text ++ text_of turns
  pub recorded : RecordedAll a (records_of turns) b

-- whatever came of it, some calls were recorded, this many at most
abbrev pub RecordedSome : ℕ → Book → Book → Type 0
RecordedSome most a b = (records : List Record) × RecordedAll a records b × (length records ≤ most)

-- the share is as much as before, in other numbers
pub record SameShare (s t : Share) : Type 0 where
  pub limit : t.limit ≡ s.limit
  pub more : ℕ
  pub parts : t.parts ≡ s.parts * 2 ^ more
  pub halvings : t.halvings ≡ s.halvings + more

-- lists of records that all rise from a point
abbrev pub AllRise : ℕ → List (List Record) → Type 0
AllRise p [] = Unit {0}
AllRise p (s ∷ ss) = Rising p s × AllRise p ss

-- these lists of records were taken in, none with a point before what had been seen
pub record TookIn (a : Book) (more : List (List Record)) (b : Book) : Type 0 where
  pub own : b.own ≡ a.own
  pub joined : b.joined ≡ a.joined ++ more
  pub rise : AllRise a.seen more
  pub seen : a.seen ≤ b.seen

-- a list of records if there are some
abbrev pub some_of : List Record → List (List Record)
some_of [] = []
some_of (r ∷ rs) = (r ∷ rs) ∷ []

-- the records of the sessions below this one that made any
unfoldable pub present : ℕ → List Turn → List (List Record)
present zero turns = []
present (suc session) turns = present session turns ++ some_of (strand session turns)

-- the records of each session rise between two clocks
abbrev pub Between : ℕ → ℕ → List Turn → Type 0
Between p q turns = (session : ℕ) → Rising p (strand session turns) × (ends p (strand session turns) ≤ q)

-- the text that a phase was answered, and where the sessions start
pub record Outcome : Type 0 where
  pub text : List ℕ
  pub bases : List ℕ

abbrev pub outcome : List ℕ → List ℕ → Outcome
outcome text bases = record { text = text; bases = bases }

-- the sessions below a number were answered their orders of a phase
pub record ObeyedBelow (a : Book) (bases : List ℕ) (count : ℕ) (orders : List Order) (then : Outcome) (b : Book) : Type 0 where
  pub turns : List Turn
  pub orders_are : orders_of turns ≡ of_sessions count orders
  pub asked : AsAsked bases turns
  pub last : then.bases ≡ bases_then bases turns
  pub told : then.text ≡ text_of turns
  pub joined : b.joined ≡ a.joined ++ present count turns
  pub between : Between a.seen b.seen turns

-- how many records lists have
abbrev pub size : List (List Record) → ℕ
size [] = 0
size (s ∷ ss) = length s + size ss

-- whatever came of it, some records were taken in, this many at most
abbrev pub TookInSome : ℕ → Book → Book → Type 0
TookInSome most a b = (more : List (List Record)) × TookIn a more b × (size more ≤ most)

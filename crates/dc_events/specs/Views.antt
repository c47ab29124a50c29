-- What an actor knows: its walk, the records of its calls, and, with the lock, the words and the history.
use Rattle.std.specs.Prelude.{ℕ, List, Bool}
use Rattle.dc_plain.specs.Requests.{Request, Answer}

-- a row's count as a walk saw it, and the words read after it
pub record Note : Type 0 where
  pub row : ℕ
  pub count : ℕ
  pub words : List ℕ
  pub checked : Bool

-- an answered call, how many calls had altered the tree before, and whether it altered the tree itself
pub record Record : Type 0 where
  pub call : Request
  pub reply : Answer
  pub at : ℕ
  pub altered : Bool

-- the unanswered call, if busy, and the notes made for it
pub record Walk : Type 0 where
  pub busy : Bool
  pub call : Request
  pub notes : List Note
  pub pivoted : Bool
  pub pivot : ℕ

-- the greatest clock seen, the records of the actor's own calls, and those of actors that were joined to it
pub record Book : Type 0 where
  pub seen : ℕ
  pub own : List Record
  pub joined : List (List Record)

-- the holder of the lock knows the calls that altered the tree and all words
pub record Hold : Type 0 where
  pub holds : Bool
  pub history : List Request
  pub words : List ℕ

-- why a walk cannot go on: a row found odd; a row whose count was noted and is another
pub data Fault : Type 0 where
  Busy : ℕ → Fault
  Changed : ℕ → ℕ → ℕ → Fault

-- with the number of loads, that number as the walk began, and the faults of the walk
pub record View : Type 0 where
  pub walk : Walk
  pub book : Book
  pub hold : Hold
  pub loads : ℕ
  pub first_load : ℕ
  pub faults : List Fault

-- When the stamped answers of several actors are a run of one plain tree.
use Rattle.std.specs.Prelude.{◌≡◌, ℕ, List, [], ◌∷◌, ◌==◌, filter}
use Rattle.dc_plain.specs.Trees.{Tree, empty_tree}
use Rattle.dc_plain.specs.Requests.{Request, Answer}
use Rattle.dc_plain.specs.Runs.{reply_of, tree_after, clock_after}

-- a stamp: who called, the call, its answer, and how many calls had altered the tree before
pub record Stamp : Type 0 where
  pub actor : ℕ
  pub request : Request
  pub answer : Answer
  pub at : ℕ

-- one after the other the stamps are a run: each call is answered so on the tree that those before it
-- left, and its point counts those of them that altered the tree
abbrev pub IsRun : ℕ → Tree → ℕ → List Stamp → Type 0
IsRun limit t clock [] = Unit {0}
IsRun limit t clock (stamp ∷ stamps) =
    (stamp.at ≡ clock) × (stamp.answer ≡ reply_of limit t stamp.request)
    × IsRun limit (tree_after limit t stamp.request) (clock_after limit t stamp.request clock) stamps

-- the stamps of an actor, in their order
abbrev pub of_actor : ℕ → List Stamp → List Stamp
of_actor actor stamps = filter (λ stamp. stamp.actor == actor) stamps

-- the stamps in some order, in which those of each actor stand as they were given, are a run from the
-- empty tree; so they stand by their points, and at each point the one that altered the tree comes last
pub record IsLegal (limit : ℕ) (stamps : List Stamp) : Type 0 where
  pub order : List Stamp
  pub kept : (actor : ℕ) → of_actor actor order ≡ of_actor actor stamps
  pub run : IsRun limit empty_tree 0 order

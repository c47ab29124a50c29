-- How stamps by their points are judged one after the other.
use Rattle.std.specs.Prelude.{◌≡◌, ◌≢◌, ℕ, ◌+◌, ◌≤◌, List, [], ◌∷◌, Bool, true, false, ◌==◌, Option, Some, None, filter, if◌then◌else◌}
use Rattle.dc_plain.specs.Trees.{Tree, empty_tree}
use Rattle.dc_lang.specs.Spans.{Span}
use Rattle.dc_plain.specs.Runs.{reply_of, tree_after, alters, clock_after}
use Rattle.dc_plain.specs.Legal.{Stamp, of_actor}
use Rattle.dc_check.specs.Phases.{Phased}

-- the points don't fall, and the first isn't below this one
abbrev pub Rises : ℕ → List Stamp → Type 0
Rises least [] = Unit {0}
Rises least (stamp ∷ stamps) = (least ≤ stamp.at) × Rises stamp.at stamps

-- nor do those of any actor
abbrev pub RisesByActor : List Stamp → Type 0
RisesByActor stamps = (actor : ℕ) → Rises 0 (of_actor actor stamps)

-- the stamps by their points, those with one point as they were given
pub record IsByPoint (stamps sorted : List Stamp) : Type 0 where
  pub rises : Rises 0 sorted
  pub stable : (at : ℕ) → filter (λ stamp. stamp.at == at) sorted ≡ filter (λ stamp. stamp.at == at) stamps

-- the tree after this many changes, and of the stamps with this point the one that alters it, once it is met
pub record Judge : Type 0 where
  pub limit : ℕ
  pub tree : Tree
  pub clock : ℕ
  pub change : Option Stamp

abbrev pub opening : ℕ → Judge
opening limit = record { limit = limit; tree = empty_tree; clock = 0; change = None }

abbrev pub is_change : Judge → Stamp → Bool
is_change judge stamp = alters judge.limit judge.tree stamp.request

abbrev pub IsAnswered : Judge → Stamp → Type 0
IsAnswered judge stamp = stamp.answer ≡ reply_of judge.limit judge.tree stamp.request

-- the change so far, if any, is another's
abbrev pub IsAnothers : Option Stamp → Stamp → Type 0
IsAnothers None stamp = Unit {0}
IsAnothers (Some change) stamp = change.actor ≢ stamp.actor

-- one that is answered rightly and follows no change of its actor
abbrev pub IsPassed : Judge → Stamp → Type 0
IsPassed judge stamp = IsAnswered judge stamp × IsAnothers judge.change stamp

-- the first that alters the tree, or one that doesn't and passes
abbrev pub IsGoodIf : Bool → Judge → Stamp → Type 0
IsGoodIf true judge stamp = judge.change ≡ None
IsGoodIf false judge stamp = IsPassed judge stamp

abbrev pub IsGood : Judge → Stamp → Type 0
IsGood judge stamp = IsGoodIf (is_change judge stamp) judge stamp

-- with a stamp that has been met
abbrev pub with_met : Judge → Stamp → Judge
with_met judge stamp = if is_change judge stamp then record judge { change = Some stamp } else judge

-- the change is answered rightly
abbrev pub IsSettledBy : Option Stamp → Judge → Type 0
IsSettledBy None judge = Unit {0}
IsSettledBy (Some change) judge = IsAnswered judge change

abbrev pub IsSettled : Judge → Type 0
IsSettled judge = IsSettledBy judge.change judge

-- the tree that the change leaves
abbrev pub tree_by : Option Stamp → Judge → Tree
tree_by None judge = judge.tree
tree_by (Some change) judge = tree_after judge.limit judge.tree change.request

-- with the change made
abbrev pub settled : Judge → Judge
settled judge = record judge { tree = tree_by judge.change judge; change = None }

-- a change leads to the next point, and this is it
pub record Moves (judge : Judge) (at : ℕ) : Type 0 where
  pub altered : judge.change ≢ None
  pub is_settled : IsSettled judge
  pub next : at ≡ judge.clock + 1

abbrev pub ReachesIf : Bool → Judge → ℕ → Type 0
ReachesIf true judge at = Unit {0}
ReachesIf false judge at = Moves judge at

-- the judge is at the point, or moves there
abbrev pub Reaches : Judge → ℕ → Type 0
Reaches judge at = ReachesIf (at == judge.clock) judge at

abbrev pub reached : Judge → ℕ → Judge
reached judge at = if at == judge.clock then judge else record (settled judge) { clock = at }

-- a stamp is good at its point
abbrev pub Takes : Judge → Stamp → Type 0
Takes judge stamp = Reaches judge stamp.at × IsGood (reached judge stamp.at) stamp

abbrev pub taken : Judge → Stamp → Judge
taken judge stamp = with_met (reached judge stamp.at) stamp

-- its call alters the tree at its point
abbrev pub alters_at : Judge → Stamp → Bool
alters_at judge stamp = is_change (reached judge stamp.at) stamp

-- all of the stamps are good, and the last change is answered rightly
abbrev pub Passes : List Stamp → Judge → Type 0
Passes [] judge = IsSettled judge
Passes (stamp ∷ stamps) judge = Takes judge stamp × Passes stamps (taken judge stamp)

-- where a stamp takes effect that the judge takes
abbrev pub span_in : Judge → Phased → Span
span_in judge phased = record {
  phase = phased.phase;
  at = phased.stamp.at;
  end = clock_after judge.limit judge.tree phased.stamp.request phased.stamp.at;
}

-- where all of them do, one after the other
abbrev pub spans_in : Judge → List Phased → List Span
spans_in judge [] = []
spans_in judge (phased ∷ rest) = span_in (reached judge phased.stamp.at) phased ∷ spans_in (taken judge phased.stamp) rest

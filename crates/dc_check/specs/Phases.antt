-- The phases in which stamped calls were made, and where these took effect.
use Rattle.std.specs.Prelude.{ℕ, zero, suc, List, [], ◌∷◌, ◌==◌, ◌&&◌, ◌↔◌, Option, Some, None, find, map, Contains}
use Rattle.dc_lang.specs.Spans.{Span}
use Rattle.dc_plain.specs.Trees.{Tree, empty_tree}
use Rattle.dc_plain.specs.Runs.{tree_after, alters, clock_after}
use Rattle.dc_plain.specs.Legal.{Stamp}

-- a stamp, and the phase in which its call was made
pub record Phased : Type 0 where
  pub phase : ℕ
  pub stamp : Stamp

-- stamps with the numbers of their phases, 0 if there is none
abbrev pub with_phases : List ℕ → List Stamp → List Phased
with_phases phases [] = []
with_phases [] (stamp ∷ stamps) = record { phase = 0; stamp = stamp } ∷ with_phases [] stamps
with_phases (phase ∷ phases) (stamp ∷ stamps) = record { phase = phase; stamp = stamp } ∷ with_phases phases stamps

-- of the stamps with this point the first that alters the tree
abbrev pub change_at : ℕ → Tree → ℕ → List Stamp → Option Stamp
change_at limit t at stamps = find (λ stamp. stamp.at == at && alters limit t stamp.request) stamps

-- the tree that it leaves
abbrev pub tree_led : ℕ → Tree → Option Stamp → Tree
tree_led limit t None = t
tree_led limit t (Some change) = tree_after limit t change.request

-- the tree at a point: at each point before it the stamp that alters the tree led on
unfoldable pub tree_at : ℕ → List Stamp → ℕ → Tree
tree_at limit stamps zero = empty_tree
tree_at limit stamps (suc at) = tree_led limit (tree_at limit stamps at) (change_at limit (tree_at limit stamps at) at stamps)

-- where a stamped call took effect: it ends behind its point exactly if it altered the tree there
abbrev pub span_at : ℕ → List Stamp → Phased → Span
span_at limit stamps phased = record {
  phase = phased.phase;
  at = phased.stamp.at;
  end = clock_after limit (tree_at limit stamps phased.stamp.at) phased.stamp.request phased.stamp.at;
}

abbrev pub spans_of : ℕ → List ℕ → List Stamp → List Span
spans_of limit phases stamps = map (span_at limit stamps) (with_phases phases stamps)

-- the lists have the same items
abbrev pub SameItems : List Phased → List Phased → Type 0
SameItems phased others = (one : Phased) → (Contains phased one ↔ Contains others one)

-- What is known of the tree of a table that is closed with a pass.
use Rattle.std.specs.Prelude.{◌≡◌, ℕ, List, ◌∷◌, length}
use Rattle.dc_plain.specs.Requests.{Request}
use Rattle.dc_plain.specs.Trees.{Tree}
use Rattle.dc_events.specs.Legal.{Legal}
use Rattle.dc_events.specs.Standing.{tree_of}
use Rattle.dc_events.specs.Rule.{BookFits, view_hits, once_below}
use Rattle.dc_table.specs.Shares.{Known, IsWhole, AreBeginnings, AreHoldsOf}

-- it is the tree after a history of this many calls, in which all records of the pass stand, of which each of its holds is, and of which each of its pivots counted a beginning; a pass with the whole share has
-- one record for each call of the history, and its records are those of a run of one plain tree
pub record Ends (limit : ℕ) (k : Known) (tree : Tree) (clock : ℕ) : Type 0 where
  pub history : List Request
  pub tree_is : tree ≡ tree_of limit history
  pub clock_is : clock ≡ length history
  pub book : BookFits limit history k.view.book
  pub holds : AreHoldsOf history k.past
  pub pivots : AreBeginnings history k.pivots
  pub once : IsWhole k.share → (p : ℕ) → view_hits p k.view ≡ once_below p (length history)
  pub legal : IsWhole k.share → Legal limit (k.view.book.own ∷ k.view.book.joined)

-- The rows as the holder of the lock has them.
use Rattle.std.specs.Prelude.{ℕ, List}
use Rattle.dc_plain.specs.Requests.{Request}
use Rattle.dc_index.specs.Slots.{Slot}
use Rattle.dc_shrink.specs.Listings.{Listing}

-- the history of the tree that they tell of, their words, which row has which key, and which are in use, and pinned how often
pub record RowState : Type 0 where
  pub history : List Request
  pub words : List ℕ
  pub slots : List Slot
  pub used : Listing

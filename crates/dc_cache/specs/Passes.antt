-- What a caller knows of its pass.
use Rattle.std.specs.Prelude.{◌≡◌, ℕ}
use Rattle.dc_events.specs.Views.{View}
use Rattle.dc_table.specs.Passes as seats
use Rattle.dc_ops.specs.Asked as asked
use Rattle.dc_plain.specs.declared.call.Call.{Call}
use Rattle.dc_rows.specs.Outcomes as outcomes
use Rattle.dc_table.specs.Shares as shares
use Rattle.dc_table.specs.Changes.{NothingNew}
use Rattle.dc_table.specs.Shares.{Known, Share, HasNotTried, tried}
use Rattle.dc_walk.specs.Findings as walks
use Rattle.dc_cache.specs.declared.cache.Cache.{Cache}
use Rattle.dc_cache.specs.declared.cache.Pass.{Pass}

-- what the pass has done and seen, and its share
abbrev pub known : Pass → Known
known p = seats.known p.seat

abbrev pub view : Pass → View
view p = (known p).view

abbrev pub share : Pass → Share
share p = (known p).share

abbrev pub buckets_of : Pass → ℕ
buckets_of p = walks.buckets_of p.seat

-- the pass is one of the cache, which has a bucket, and does not have the lock
abbrev pub Fits : {W : Type 0} → Cache W → Pass → Type 0
Fits cache p = walks.CanWalk cache.shared p.seat

-- two passes are of one cache
abbrev pub SameCache : Pass → Pass → Type 0
SameCache p q = q.seat.table_id ≡ p.seat.table_id

-- the pass found the lock held: it has tried for it once, and did and saw nothing
abbrev pub FoundHeld : Pass → Pass → Type 0
FoundHeld p q = known q ≡ tried (known p)

-- a pass that knows l, and knew k, walked by rows and then found the lock held: nothing is recorded, what it had seen is seen still, and but for one try for the lock it knows of its holds what it knew
pub record TriedAfterWalk (k l : Known) : Type 0 where
  pub nothing : NothingNew k.view l.view
  pub tried_once : HasNotTried (tried k) l
  pub same_share : l.share ≡ k.share

abbrev pub WalkedAndFoundHeld : Pass → Pass → Type 0
WalkedAndFoundHeld p q = TriedAfterWalk (known p) (known q)

-- this many rows were emptied: as many as were asked for, or all that were listed when the pass got the lock; the last of them, and no other
abbrev pub Shrinks : ℕ → ℕ → Pass → Type 0
Shrinks most emptied q = outcomes.Shrinks most emptied q.seat

-- a share that is the whole, as that of the first pass
abbrev pub IsWhole : Share → Type 0
IsWhole s = shares.IsWhole s

-- a call that may alter the tree
abbrev pub IsChange : Call → Type 0
IsChange call = asked.IsChange call

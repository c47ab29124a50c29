-- What a caller knows of the holder of the lock, and of a reader.
use Rattle.std.specs.Prelude.{◌≡◌, ℕ, ◌+◌}
use Rattle.dc_plain.specs.Requests.{Request}
use Rattle.dc_events.specs.Views.{View}
use Rattle.dc_events.specs.Rows.{base_of, count}
use Rattle.dc_events.specs.Effects.{wrote, committed, answered}
use Rattle.dc_table.specs.RowStates.{RowState}
use Rattle.dc_table.specs.Shares.{HasNotTried, HadOnce, tried}
use Rattle.dc_table.specs.Passes.{Pass, known, view, share, IsSamePass, IsIdle, CanAnswer}
use Rattle.dc_table.specs.Plays.{Took, Home, rows_as}
use Rattle.dc_table.specs.declared.table.Guarded.{Guarded}
use Rattle.dc_table.specs.declared.shared.Shared.{Shared}
use Rattle.dc_table.specs.declared.holder.Holder.{Holder}
use Rattle.dc_table.specs.declared.holder.Reader.{Reader}

-- the pass that has the lock, as it is now
abbrev pub pass_of : Holder → Pass
pass_of h = h.pass.now

-- the table that a reader reads
abbrev pub table_of : Reader → Shared
table_of r = r.shared.now

-- the view of a pass that has committed a call, or answered one as it gave the lock back
abbrev pub committed_by : Pass → Request → View
committed_by p call = committed (share p).limit (view p) call

abbrev pub answered_by : Pass → Request → View
answered_by p call = answered (share p).limit (view p) call

-- one more than the count of a row
abbrev pub next_count : View → ℕ → ℕ
next_count v row = count v.hold.words row + 1

-- the count of a row is one higher now, and this; the holder has done nothing else
abbrev pub Raises : Pass → Pass → ℕ → ℕ → Type 0
Raises p q row now = (now ≡ next_count (view p) row) × (view q ≡ wrote (view p) (base_of row) now)

-- the rows as the holder has them, with what the lock guards
abbrev pub rows_held : Holder → Guarded → RowState
rows_held h x = let hold = (view (pass_of h)).hold in rows_as hold.history hold.words x

-- the pass has got the lock, and with it what fits the tree and the rows
pub record Locked (p : Pass) (h : Holder) (x : Guarded) : Type 0 where
  pub same : IsSamePass p h.pass.now
  pub took : Took (known p) (known h.pass.now) x

-- there was one try for the lock
abbrev pub TriedOnce : Pass → Pass → Type 0
TriedOnce p q = (known q).tries ≡ (known p).tries + 1

-- the pass found the lock held: it has tried once, and did and saw nothing
pub record FoundHeld (p q : Pass) : Type 0 where
  pub same : IsSamePass p q
  pub idle : IsIdle q
  pub now : known q ≡ tried (known p)

-- the holder has the lock still, with the same pass
pub record StaysHeld (h g : Holder) : Type 0 where
  pub same_reference : g.pass.ghost_name ≡ h.pass.ghost_name
  pub untried : HasNotTried (known (pass_of h)) (known (pass_of g))

-- the holder has done nothing, and its pass knows what it knew
pub record StaysAsIs (h g : Holder) : Type 0 where
  pub held : StaysHeld h g
  pub same : IsSamePass (pass_of h) (pass_of g)
  pub same_known : known (pass_of g) ≡ known (pass_of h)

-- a call that alters nothing can be answered by a holder that gives back what fits
pub record MayAnswer (h : Holder) (x : Guarded) (call : Request) : Type 0 where
  pub home : Home (known (pass_of h)) x
  pub unaltered : CanAnswer (share (pass_of h)) (view (pass_of h)) call

-- the lock is free again: the same pass has it no more, and knows the rows as it handed them back
pub record Freed (h : Holder) (x : Guarded) (q : Pass) : Type 0 where
  pub same : IsSamePass h.pass.now q
  pub idle : IsIdle q
  pub same_tries : (known q).tries ≡ (known (pass_of h)).tries
  pub same_got : (known q).got ≡ (known (pass_of h)).got
  pub left : (known q).left ≡ rows_held h x
  pub once : HadOnce (known (pass_of h)) (known q)

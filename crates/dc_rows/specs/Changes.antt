-- What a change does to the pass that makes it and to what the lock guards.
use Rattle.std.specs.Prelude.{◌≡◌, ℕ, ◌<◌, true, List, length}
use Rattle.dc_plain.specs.Facts.{Key}
use Rattle.dc_plain.specs.Requests.{Request, Answer}
use Rattle.dc_plain.specs.Runs.{reply_of, alters}
use Rattle.dc_ops.specs.Plans.{CallTakesNoMemory}
use Rattle.dc_events.specs.Views.{View}
use Rattle.dc_events.specs.Rows.{most}
use Rattle.dc_events.specs.Effects.{committed}
use Rattle.dc_events.specs.Standing.{tree_of}
use Rattle.dc_table.specs.Changes.{NothingNew, tree_now, with_words, words_of}
use Rattle.dc_table.specs.Shares.{HasNotTried}
use Rattle.dc_table.specs.Passes.{Pass, known, view, share, IsSamePass, IsHolder}
use Rattle.dc_table.specs.Rows.{Rest}
use Rattle.dc_table.specs.declared.table.Guarded.{Guarded}
use Rattle.dc_rows.specs.Rows.{Stage}
use Rattle.dc_rows.specs.declared.fault.ChangeFault.{ChangeFault}
use Rattle.dc_rows.specs.declared.fault.ChangeFault.TheVariants as faults

-- the holder has written words of rows, and done nothing else
pub record OnlyWrites (p q : Pass) : Type 0 where
  pub same : IsSamePass p q
  pub untried : HasNotTried (known p) (known q)
  pub holder : IsHolder q
  pub only : view q ≡ with_words (view p) (words_of q)

-- tree, clock and limit are as they were
pub record KeepsTree (x y : Guarded) : Type 0 where
  pub tree : y.store ≡ x.store
  pub clock : y.clock ≡ x.clock
  pub same_limit : y.max_inodes ≡ x.max_inodes

-- the rows of the keys from place i to before place n are odd, and no others
abbrev pub StageAt : Pass → Guarded → ℕ → ℕ → List Key → Type 0
StageAt p x i n keys = Stage (tree_now p) (share p).rows (words_of p) x.index x.shrinker i n keys

-- all rows are even, and fit what is guarded
abbrev pub RestAt : Pass → Guarded → Type 0
RestAt p x = Rest (tree_now p) (share p).rows (words_of p) x.index x.shrinker

-- the holder has committed the call, whose reply this is, and written words of rows besides
pub record Altered (p q : Pass) (call : Request) (reply : Answer) : Type 0 where
  pub same : IsSamePass p q
  pub untried : HasNotTried (known p) (known q)
  pub holder : IsHolder q
  pub replied : reply ≡ reply_of (share p).limit (tree_now p) call
  pub only : view q ≡ with_words (committed (share p).limit (view p) call) (words_of q)

-- why a change that would alter the tree isn't made: it takes memory and the last clock isn't seen, or that clock is
abbrev pub IsCause : ChangeFault → ℕ → Request → Type 0
IsCause faults.NoMemory clock call = (CallTakesNoMemory call → ⊥) × (clock < most)
IsCause faults.Spent clock call = clock ≡ most

-- a change that isn't made records nothing; it would alter the tree after this history, of as many changes as were seen
pub record Failed (limit : ℕ) (history : List Request) (v w : View) (call : Request) (fault : ChangeFault) : Type 0 where
  pub nothing : NothingNew v w
  pub seen : w.book.seen ≡ length history
  pub altering : alters limit (tree_of limit history) call ≡ true
  pub cause : IsCause fault w.book.seen call

-- What a walk seeks in rows, and how it goes on.
use Rattle.std.specs.Prelude.{ℕ, Result, Option, IfOk, OnErr}
use Rattle.dc_plain.specs.Facts.{Key}
use Rattle.dc_plain.specs.KeysShown.{key_shown}
use Rattle.dc_resolve.specs.Needs.{IsNeeded, IsUntold}
use Rattle.dc_table.specs.Passes.{known}
use Rattle.dc_table.specs.Shares.{HasNotTried}
use Rattle.dc_walk.specs.Asking.{GoesOn}
use Rattle.dc_walk.specs.Findings.{SameRows, IsFinding, now_in, outcome_in, said_in}
use Rattle.dc_walk.specs.Rooms.{HasPlace}
use Rattle.dc_walk.specs.Sights.{AnswersIn, GivesUp}
use Rattle.dc_walk.specs.declared.rows.Rows.{Rows}
use Rattle.dc_walk.specs.declared.sought.Sought.{Sought}
use Rattle.dc_walk.specs.declared.source.Lane.{Lane}

-- the key that is sought
abbrev pub key_in : Sought → Key
key_in sought = key_shown sought.key

-- the walk needs a key, of which no used row tells, has looked at k rows for it, and has room for one that tells of it
pub record MaySeek (f : Rows) (key : Key) (k : ℕ) : Type 0 where
  pub finding : IsFinding f k
  pub place : HasPlace f.used.now key.label
  pub needed : IsNeeded (outcome_in f) (said_in f) key.number key.label
  pub untold : IsUntold (said_in f) key.number key.label

-- it is the same walk, which looked at rows alone
pub record LooksOn (f g : Rows) : Type 0 where
  pub same : SameRows f g
  pub untried : HasNotTried (known f.pass.now) (known g.pass.now)
  pub on : GoesOn (now_in f) (now_in g)

-- a row of the lane tells of the key, or the walk gives up
abbrev pub Seeks : Rows → Key → Rows → Lane → Result ℕ (Option ℕ) → Type 0
Seeks f key g lane result = IfOk result (AnswersIn f key g lane 0) × OnErr result (GivesUp f g)

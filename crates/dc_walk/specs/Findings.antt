-- What a finder over rows has done, and says.
use Rattle.std.specs.Prelude.{◌≡◌, ℕ, ◌+◌, ◌/◌, ◌<◌, ◌≤◌, List, Bool, not, Option, length, map, if◌then◌else◌}
use Rattle.dc_plain.specs.Facts.{Teller}
use Rattle.dc_plain.specs.Resolution.{Outcome}
use Rattle.dc_plain.specs.Requests.{Request}
use Rattle.dc_events.specs.Views.{View}
use Rattle.dc_events.specs.Effects.{begins}
use Rattle.dc_table.specs.Holders.{table_of}
use Rattle.dc_table.specs.Passes.{Pass, view, share, Fits, IsSamePass, IsIdle}
use Rattle.dc_table.specs.declared.shared.Shared.{Shared}
use Rattle.dc_walk.specs.Looks.{look_shown, outcome_of}
use Rattle.dc_walk.specs.Uses.{Use}
use Rattle.dc_walk.specs.Asking.{IsWalk}
use Rattle.dc_walk.specs.Finds.{use_shown, told_in, AllSpelled, AllInside, AllHeld}
use Rattle.dc_names.specs.declared.limits.TheConstants.{BUCKET_ROWS, MOST_USED}
use Rattle.dc_walk.specs.declared.rows.Rows.{Rows}
use Rattle.dc_walk.specs.declared.look.Look.{Look}

abbrev pub request_in : Rows → Request
request_in f = look_shown f.look

abbrev pub uses_in : Rows → List Use
uses_in f = map use_shown f.used.now.items

abbrev pub said_in : Rows → Teller
said_in f = told_in f.used.now.items

-- what the walk comes to by one who tells
abbrev pub outcome_in : Rows → Teller → Option Outcome
outcome_in f = outcome_of f.look

-- how many buckets the table of a pass has
abbrev pub buckets_of : Pass → ℕ
buckets_of p = (share p).rows / BUCKET_ROWS

-- the pass is one of the table, which has a bucket, and has not the lock
pub record CanWalk (t : Shared) (p : Pass) : Type 0 where
  pub fits : Fits t p
  pub idle : IsIdle p
  pub some_bucket : 0 < buckets_of p

-- the same walk, with the same pass
pub record SameRows (f g : Rows) : Type 0 where
  pub reader : g.reader ≡ f.reader
  pub pass : g.pass.ghost_name ≡ f.pass.ghost_name
  pub used : g.used.ghost_name ≡ f.used.ghost_name
  pub look : g.look ≡ f.look
  pub brief : g.brief ≡ f.brief
  pub same_pass : IsSamePass f.pass.now g.pass.now

-- the view, once the walk of a question is begun
abbrev pub view_in : Bool → Pass → Look → View
view_in begun p look = begins (not begun) (view p) (look_shown look)

abbrev pub now_in : Rows → View
now_in f = view_in f.begun f.pass.now f.look

-- how many rows it looked at besides those that its answered questions cost: once those of a bucket
abbrev pub spent : Rows → ℕ
spent f = if f.slow then BUCKET_ROWS else 0

-- it has looked at k rows for its present question
pub record IsFinding (f : Rows) (k : ℕ) : Type 0 where
  pub can : CanWalk (table_of f.reader) f.pass.now
  pub walk : IsWalk (outcome_in f) (now_in f) (uses_in f) (spent f + k)
  pub made : f.made ≡ length (now_in f).walk.notes
  pub call : (now_in f).walk.call ≡ request_in f
  pub spelled : AllSpelled f.used.now.items
  pub inside : AllInside (share f.pass.now).rows f.used.now.items
  pub held : AllHeld f.filter f.used.now.items
  pub few : length f.used.now.items ≤ MOST_USED

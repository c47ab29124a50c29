-- A page of a directory's entries, and the tree that has them.
use Rattle.std.specs.Prelude.{◌≡◌, ℕ, List, Option, Result, Ok, Err, length}
use Rattle.std.specs.Borrow.{MutBor}
use Rattle.std.specs.Global.{Vec}
use Rattle.dc_names.specs.declared.NoMemory.{NoMemory}
use Rattle.dc_ops.specs.Pages.{page_by, IsFound}
use Rattle.dc_plain.specs.Requests.{Request, answer_of}
use Rattle.dc_plain.specs.Requests.Request.{Look}
use Rattle.dc_plain.specs.Runs.{reply_of}
use Rattle.dc_plain.specs.declared.call.Follow.TheVariants as follow
use Rattle.dc_plain.specs.declared.call.Stamped.{Stamped}
use Rattle.dc_events.specs.Standing.{tree_of}
use Rattle.dc_events.specs.Views.{View}
use Rattle.dc_rows.specs.Guards.{rows_of, seat_of}
use Rattle.dc_rows.specs.declared.guard.Guard.{Guard}
use Rattle.dc_store.specs.Pages.{name_shown, page_told}
use Rattle.dc_store.specs.declared.pages.Entry.{Entry}
use Rattle.dc_table.specs.Changes.{NothingNew, Recorded}
use Rattle.dc_table.specs.Passes as seats
use Rattle.dc_cache.specs.Passes.{known, share, view}
use Rattle.dc_cache.specs.declared.cache.Pass.{Pass}
use Rattle.dc_cache.specs.declared.entries.Entries as rust_entries

-- which page is asked for: that of the directory that a path leads to, behind a name, with at most this many entries
pub record Asked : Type 0 where
  pub base : ℕ
  pub path : List ℕ
  pub after : Option (List ℕ)
  pub most : ℕ

abbrev pub asked_for : rust_entries.Entries → Asked
asked_for e = record { base = e.base; path = e.path.now; after = name_shown e.after; most = e.most }

-- the call that is recorded for it: the look-up of the directory
abbrev pub look_of : Asked → Request
look_of asked = Look asked.base asked.path follow.Dir

-- the look-up of the directory is recorded alone, and the entries are those that the tree after this history has
pub record Pages (limit : ℕ) (history : List Request) (v w : View) (asked : Asked) (stamped : Stamped) (entries : Vec Entry) : Type 0 where
  pub recorded : Recorded v w (look_of asked) (answer_of stamped.reply) stamped.at
  pub page : page_told entries ≡ page_by (tree_of limit history) asked.after asked.most (answer_of stamped.reply)

-- nothing is recorded, and the look-up would be no refusal: on the tree after this history, of as many changes as were seen
pub record Lacks (limit : ℕ) (history : List Request) (v w : View) (asked : Asked) : Type 0 where
  pub nothing : NothingNew v w
  pub seen : w.book.seen ≡ length history
  pub found : IsFound (reply_of limit (tree_of limit history) (look_of asked))

-- a page was told, or memory was refused for it
abbrev pub PagesTo : ℕ → List Request → View → View → Asked → Result (Stamped × Vec Entry) NoMemory → Type 0
PagesTo limit history v w asked (Ok told) = Pages limit history v w asked told.0 told.1
PagesTo limit history v w asked (Err fault) = Lacks limit history v w asked

abbrev pub PagesOne : Guard → MutBor seats.Pass → Asked → Result (Stamped × Vec Entry) NoMemory → Type 0
PagesOne g back asked told = PagesTo (seats.share (seat_of g)).limit (rows_of g).history (seats.view (seat_of g)) (seats.view back.now) asked told

abbrev pub ToldPage : Pass → Pass → Asked → Result (Stamped × Vec Entry) NoMemory → Type 0
ToldPage p q asked told = PagesTo (share p).limit (known q).got.history (view p) (view q) asked told

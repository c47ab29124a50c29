-- What the calls that change nothing answer on a tree.
use Rattle.std.specs.Prelude.{ℕ, List, length, Some, None, if◌then◌else◌, Result, Ok, Err}
use Rattle.dc_names.specs.declared.refusal.Refusal.{Refusal}
use Rattle.dc_names.specs.declared.refusal.Refusal.TheVariants.{Invalid}
use Rattle.dc_plain.specs.declared.call.Follow.{Follow}
use Rattle.dc_plain.specs.declared.call.Follow.TheVariants as follow
use Rattle.dc_plain.specs.Facts.{Target}
use Rattle.dc_plain.specs.Resolution.{is_directory}
use Rattle.dc_plain.specs.Trees.{Tree, text_of, names_of, names_in}
use Rattle.dc_plain.specs.Requests.{Answer}
use Rattle.dc_plain.specs.Requests.Answer.{Found, Bytes, Names, Counted}
use Rattle.dc_plain.specs.Refusals.{◌>>=◌, walk_on}

-- the inode that a path leads to
abbrev pub look : Tree → ℕ → List ℕ → Follow → Result Answer Refusal
look t base text how = do
  place ← walk_on t base text how
  Ok (Found place.0 place.1)

-- the text of a link (readlink)
abbrev pub readlink : Tree → ℕ → List ℕ → Result Answer Refusal
readlink t base text = do
  place ← walk_on t base text follow.No
  elim (text_of t place.0) [ None ↦ Err Invalid | Some bytes ↦ Ok (Bytes bytes) ]

-- how many names an inode has, or how many entries as a directory
abbrev pub count_at : Tree → Target → ℕ
count_at t place = if is_directory place then length (names_in t place.0) else names_of t place.0

-- the inode with its count (stat)
abbrev pub stat : Tree → ℕ → List ℕ → Result Answer Refusal
stat t base text = do
  place ← walk_on t base text follow.Yes
  Ok (Counted place.0 place.1 (count_at t place))

-- the names in a directory (readdir)
abbrev pub list_names : Tree → ℕ → List ℕ → Result Answer Refusal
list_names t base text = do
  place ← walk_on t base text follow.Dir
  Ok (Names (names_in t place.0))

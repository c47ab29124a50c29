-- What a page says of the names that stand in its directory.
use Rattle.std.specs.Prelude.{◌≡◌, ◌⊎◌, ℕ, List, Option, Some, true, length, IsTrue}
use Rattle.std.specs.FinMap.Entries.{is_sorted}
use Rattle.std.specs.FinMap.Entries.{find as lookup}
use Rattle.std.specs.List.{AllByRecursion}
use Rattle.std.specs.Ordering.{is_lt}
use Rattle.dc_plain.specs.Spots.{spot_at}
use Rattle.dc_plain.specs.Trees.{Tree, entry_number}
use Rattle.dc_store.specs.Names.{name_cmp}
use Rattle.dc_store.specs.Pages.{entries_on_page, is_behind}

-- a name leads to a number, and is behind the one that a page begins behind
pub record IsDue (t : Tree) (d : ℕ) (after : Option (List ℕ)) (name : List ℕ) (n : ℕ) : Type 0 where
  pub leads : entry_number t (spot_at d name) ≡ Some n
  pub behind : is_behind after name ≡ true

-- a page is full, and a name is behind all that it tells
pub record IsLater (most : ℕ) (name : List ℕ) (told : List (List ℕ × ℕ)) : Type 0 where
  pub full : length told ≡ most
  pub behind : AllByRecursion (λ e. is_lt (name_cmp e.0 name) ≡ true) told

-- a page tells each name that is due, with its number, or leaves it for a later page
abbrev pub PagesLeaveNoGap : Type 0
PagesLeaveNoGap = (t : Tree) (d : ℕ) (after : Option (List ℕ)) (most : ℕ) (name : List ℕ) (n : ℕ) → IsDue t d after name n
    → (lookup name_cmp name (entries_on_page t d after most) ≡ Some n) ⊎ IsLater most name (entries_on_page t d after most)

-- a page tells no name again: each is behind the one that it begins behind
abbrev pub PagesGoOn : Type 0
PagesGoOn = (t : Tree) (d : ℕ) (after : Option (List ℕ)) (most : ℕ) → AllByRecursion (λ e. is_behind after e.0 ≡ true) (entries_on_page t d after most)

-- and its names rise, so that it tells none twice
abbrev pub PagesRise : Type 0
PagesRise = (t : Tree) (d : ℕ) (after : Option (List ℕ)) (most : ℕ) → IsTrue (is_sorted name_cmp (entries_on_page t d after most))

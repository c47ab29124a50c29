-- The plain tree.
use Rattle.std.specs.Prelude.{◌≡◌, ℕ, ◌+◌, List, [], ◌∷◌, Bool, true, false, not, ◌==◌, Option, Some, None, if◌then◌else◌, option_and_then, option_map, find, filter, map}
use Rattle.std.specs.Cmp.Lexicographic.{slice_cmp}
use Rattle.std.specs.Ordering.{nat_cmp, ordering_then, eq_by_cmp}
use Rattle.std.specs.declared.cmp.Ordering.{Ordering}
use Rattle.std.specs.FinMap.Entries.{where_key}
use Rattle.std.specs.FinMap.Entries.{find as lookup}
use Rattle.dc_names.specs.declared.kind.Kind.{Kind}
use Rattle.dc_names.specs.declared.kind.Kind.TheVariants.{Dir, File, Link}
use Rattle.dc_plain.specs.Facts.{Target, Label, Teller, Fact, Key}
use Rattle.dc_plain.specs.Facts.Label.{Entry, Parent, Text}
use Rattle.dc_plain.specs.Facts.Fact.{Leads, Reads}
use Rattle.dc_plain.specs.Resolution.{root}

-- what lives under a number
pub data Inode : Type 0 where
  Directory : Inode
  Regular : Inode
  Symbolic : List ℕ → Inode

abbrev pub kind_of : Inode → Kind
kind_of Directory = Dir
kind_of Regular = File
kind_of (Symbolic text) = Link

-- a directory's number and a name in it
pub record Spot : Type 0 where
  pub dir : ℕ
  pub name : List ℕ

-- by the directory, and then by the name's bytes
abbrev pub spot_cmp : Spot → Spot → Ordering
spot_cmp a b = ordering_then (nat_cmp a.dir b.dir) (slice_cmp nat_cmp a.name b.name)

-- the entries by their spots, in order, and the inodes by their numbers, in order
pub record Tree : Type 0 where
  pub entries : List (Spot × ℕ)
  pub inodes : List (ℕ × Inode)
  pub next : ℕ

abbrev pub entry_number : Tree → Spot → Option ℕ
entry_number t spot = lookup spot_cmp spot t.entries

abbrev pub inode_of : Tree → ℕ → Option Inode
inode_of t n = lookup nat_cmp n t.inodes

abbrev pub without_spot : Spot → List (Spot × ℕ) → List (Spot × ℕ)
without_spot spot = where_key spot_cmp (λ other. not (eq_by_cmp spot_cmp spot other))

abbrev pub without_number : ℕ → List (ℕ × Inode) → List (ℕ × Inode)
without_number n = where_key nat_cmp (λ other. not (n == other))

-- the root directory alone
abbrev pub empty_tree : Tree
empty_tree = record { entries = []; inodes = (1, Directory) ∷ []; next = 2 }

-- the inode of a number, with its kind
abbrev pub target_at : Tree → ℕ → Option Target
target_at t n = option_map (λ inode. (n, kind_of inode)) (inode_of t n)

abbrev pub is_directory_inode : Option Inode → Bool
is_directory_inode None = false
is_directory_inode (Some Directory) = true
is_directory_inode (Some Regular) = false
is_directory_inode (Some (Symbolic text)) = false

abbrev pub is_live_directory : Tree → ℕ → Bool
is_live_directory t n = is_directory_inode (inode_of t n)

-- the directory that has an entry for n
abbrev pub holder_of : Tree → ℕ → Option ℕ
holder_of t n = option_map (λ e. e.0.dir) (find (λ e. e.1 == n) t.entries)

-- where an entry or a dot-dot leads
abbrev pub entry_of : Tree → ℕ → Label → Option Target
entry_of t d (Entry name) = option_and_then (target_at t) (entry_number t (record { dir = d; name = name }))
entry_of t d Parent =
    if not (is_live_directory t d) then None
    else if d == 1 then Some root
    else option_and_then (target_at t) (holder_of t d)
entry_of t d Text = None

abbrev pub text_in : Inode → Option (List ℕ)
text_in Directory = None
text_in Regular = None
text_in (Symbolic text) = Some text

-- the text of a live link
abbrev pub text_of : Tree → ℕ → Option (List ℕ)
text_of t n = option_and_then text_in (inode_of t n)

-- a tree as one who answers every question
abbrev pub told_of : Tree → Teller
told_of t = record { entry = λ d label. Some (entry_of t d label); text = text_of t }

-- the fact is so in the tree; a text leads nowhere
abbrev pub Holds : Tree → Fact → Type 0
Holds t (Leads d (Entry name) target) = entry_of t d (Entry name) ≡ target
Holds t (Leads d Parent target) = entry_of t d Parent ≡ target
Holds t (Leads d Text target) = ⊥
Holds t (Reads n text) = text_of t n ≡ Some text

-- what the tree says of a number under a label: where it leads, and for a link's key its text
abbrev pub fact_of : Tree → ℕ → Label → Option Target × Option (List ℕ)
fact_of t n (Entry name) = (entry_of t n (Entry name), None)
fact_of t n Parent = (entry_of t n Parent, None)
fact_of t n Text = (None, text_of t n)

abbrev pub fact_at : Tree → Key → Option Target × Option (List ℕ)
fact_at t key = fact_of t key.number key.label

-- how many items pass a test
abbrev pub how_many : {X : Type 0} → (X → Bool) → List X → ℕ
how_many p [] = 0
how_many p (x ∷ xs) = (if p x then 1 else 0) + how_many p xs

-- how many names an inode has
abbrev pub names_of : Tree → ℕ → ℕ
names_of t n = how_many (λ e. e.1 == n) t.entries

-- the names in a directory, by their bytes
abbrev pub names_in : Tree → ℕ → List (List ℕ)
names_in t d = map (λ e. e.0.name) (filter (λ e. e.0.dir == d) t.entries)

-- a test of the directory that was found
abbrev pub if_held : Option ℕ → (ℕ → Bool) → Bool
if_held None test = false
if_held (Some up) test = test up

-- Whole runs, which calls alter a tree, and which keys they touch.
use Rattle.std.specs.Prelude.{◌≢◌, ℕ, ◌+◌, List, [], ◌∷◌, Bool, true, false, not, ◌==◌, ◌&&◌, if◌then◌else◌}
use Rattle.std.specs.Cmp.Lexicographic.{pointwise}
use Rattle.dc_plain.specs.Facts.{Key, same_bytes}
use Rattle.dc_plain.specs.Trees.{Tree, Spot, Inode, fact_at}
use Rattle.dc_plain.specs.Trees.Inode.{Directory, Regular, Symbolic}
use Rattle.dc_plain.specs.Requests.{Request, Answer}
use Rattle.dc_plain.specs.Operations.{operation}

-- what a call answers
abbrev pub reply_of : ℕ → Tree → Request → Answer
reply_of limit t request = (operation limit t request).0

-- the tree that a call leaves
abbrev pub tree_after : ℕ → Tree → Request → Tree
tree_after limit t request = (operation limit t request).1

-- the answers of the calls one after the other, each on the tree that the call before left
abbrev pub replies_of : ℕ → Tree → List Request → List Answer
replies_of limit t [] = []
replies_of limit t (request ∷ requests) = reply_of limit t request ∷ replies_of limit (tree_after limit t request) requests

-- the tree after all of the calls
abbrev pub tree_after_all : ℕ → Tree → List Request → Tree
tree_after_all limit t [] = t
tree_after_all limit t (request ∷ requests) = tree_after_all limit (tree_after limit t request) requests

-- the tree differs after the call
abbrev pub Alters : ℕ → Tree → Request → Type 0
Alters limit t request = tree_after limit t request ≢ t

abbrev pub same_inode : Inode → Inode → Bool
same_inode Directory Directory = true
same_inode Regular Regular = true
same_inode (Symbolic a) (Symbolic b) = same_bytes a b
same_inode _ _ = false

abbrev pub same_spot : Spot → Spot → Bool
same_spot a b = a.dir == b.dir && same_bytes a.name b.name

-- whether two trees are one
abbrev pub same_tree : Tree → Tree → Bool
same_tree t u = pointwise (λ a b. same_spot a.0 b.0 && a.1 == b.1) t.entries u.entries
    && pointwise (λ a b. a.0 == b.0 && same_inode a.1 b.1) t.inodes u.inodes && t.next == u.next

-- whether the tree differs after the call
abbrev pub alters : ℕ → Tree → Request → Bool
alters limit t request = not (same_tree (tree_after limit t request) t)

-- how many calls have altered the tree, once this call was made after this many
abbrev pub clock_after : ℕ → Tree → Request → ℕ → ℕ
clock_after limit t request clock = if alters limit t request then clock + 1 else clock

-- the fact under this key differs after the call
abbrev pub Touches : ℕ → Tree → Request → Key → Type 0
Touches limit t request key = fact_at (tree_after limit t request) key ≢ fact_at t key

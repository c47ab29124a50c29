-- What a new entry leads to, and the tree that it makes.
use Rattle.std.specs.Prelude.{ℕ, ◌<◌, List}
use Rattle.dc_plain.specs.Conditions.{CanBeNamed}
use Rattle.dc_plain.specs.Trees.{Tree}
use Rattle.dc_plain.specs.Trees.Inode.{Directory, Regular, Symbolic}
use Rattle.dc_plain.specs.Effects.{with_new, with_entry_for}
use Rattle.dc_names.specs.declared.limits.TheConstants.{NUMBER_LIMIT}
use Rattle.dc_store.specs.declared.store.New as rust_new
use Rattle.dc_store.specs.declared.store.New.TheVariants as news

-- a new inode needs a number below the limit, and a further name an inode that may have one
abbrev pub CanAdd : Tree → rust_new.New → Type 0
CanAdd t news.Dir = t.next < NUMBER_LIMIT
CanAdd t news.File = t.next < NUMBER_LIMIT
CanAdd t (news.Link text) = t.next < NUMBER_LIMIT
CanAdd t (news.Same n) = CanBeNamed t n

-- the tree with the new entry
abbrev pub tree_added : Tree → ℕ → List ℕ → rust_new.New → Tree
tree_added t d name news.Dir = with_new t d name Directory
tree_added t d name news.File = with_new t d name Regular
tree_added t d name (news.Link text) = with_new t d name (Symbolic text.bytes.now)
tree_added t d name (news.Same n) = with_entry_for t d name n

-- the number that the new entry leads to
abbrev pub number_added : Tree → rust_new.New → ℕ
number_added t news.Dir = t.next
number_added t news.File = t.next
number_added t (news.Link text) = t.next
number_added t (news.Same n) = n

-- The test of two trees tells whether they are one, and so which calls alter a tree.
use Rattle.std.proofs.Common.{◌≡◌, ◌≢◌, ℕ, List, [], ◌∷◌, ◌==◌, ◌&&◌, not, Bool, true, false, refl, ap, sym, ◌∙◌, IsTrue, ◌↔◌, true≢false, Result, Ok, Err, IfOk, arith}
use Rattle.std.specs.Cmp.Lexicographic.{pointwise}
use Rattle.std.proofs.lemmas.Bool.Decides.{nat_tests}
use Rattle.dc_plain.specs.Facts.{same_bytes}
use Rattle.dc_plain.specs.Trees.{Tree, Spot, Inode}
use Rattle.dc_plain.specs.Trees.Inode.{Directory, Regular, Symbolic}
use Rattle.dc_plain.specs.Requests.{Request}
use Rattle.dc_plain.specs.Runs.{same_inode, same_spot, same_tree, alters, Alters, tree_after}

both : (a b : Bool) → a ≡ true → b ≡ true → (a && b) ≡ true
both a b p q = cc

first : (a b : Bool) → (a && b) ≡ true → a ≡ true
first true b e = refl
first false b e = cc

second : (a b : Bool) → (a && b) ≡ true → b ≡ true
second true b e = e
second false b e = cc

number-refl : (n : ℕ) → (n == n) ≡ true
number-refl n = grind (arith, nat_tests)

number_is : (m n : ℕ) → (m == n) ≡ true → m ≡ n
number_is m n e = grind (arith, nat_tests)

-- a test that holds of each with itself holds so of a list
pointwise-refl : {X : Type 0} (same : X → X → Bool) → ((x : X) → same x x ≡ true) → (xs : List X) → pointwise same xs xs ≡ true
pointwise-refl same so [] = refl
pointwise-refl same so (x ∷ xs) = both (same x x) (pointwise same xs xs) (so x) (pointwise-refl same so xs)

-- and a test that holds of equals alone
pointwise_is : {X : Type 0} (same : X → X → Bool) → ((x y : X) → same x y ≡ true → x ≡ y) → (xs ys : List X) → pointwise same xs ys ≡ true → xs ≡ ys
pointwise_is same so [] [] e = refl
pointwise_is same so [] (y ∷ ys) e = cc
pointwise_is same so (x ∷ xs) [] e = cc
pointwise_is same so (x ∷ xs) (y ∷ ys) e =
    let head : x ≡ y = so x y (first (same x y) (pointwise same xs ys) e) in
    let rest : xs ≡ ys = pointwise_is same so xs ys (second (same x y) (pointwise same xs ys) e) in
    λ i. head i ∷ rest i

bytes-refl : (xs : List ℕ) → same_bytes xs xs ≡ true
bytes-refl xs = pointwise-refl (λ a b. a == b) number-refl xs

bytes_are : (xs ys : List ℕ) → same_bytes xs ys ≡ true → xs ≡ ys
bytes_are xs ys e = pointwise_is (λ a b. a == b) number_is xs ys e

inode-refl : (i : Inode) → same_inode i i ≡ true
inode-refl Directory = refl
inode-refl Regular = refl
inode-refl (Symbolic text) = bytes-refl text

inode_is : (i j : Inode) → same_inode i j ≡ true → i ≡ j
inode_is Directory Directory e = refl
inode_is Directory Regular e = cc
inode_is Directory (Symbolic b) e = cc
inode_is Regular Directory e = cc
inode_is Regular Regular e = refl
inode_is Regular (Symbolic b) e = cc
inode_is (Symbolic a) Directory e = cc
inode_is (Symbolic a) Regular e = cc
inode_is (Symbolic a) (Symbolic b) e = ap Symbolic (bytes_are a b e)

abbrev pub same_entry : Spot × ℕ → Spot × ℕ → Bool
same_entry a b = same_spot a.0 b.0 && a.1 == b.1

abbrev pub same_numbered : ℕ × Inode → ℕ × Inode → Bool
same_numbered a b = a.0 == b.0 && same_inode a.1 b.1

spot-refl : (s : Spot) → same_spot s s ≡ true
spot-refl s = both (s.dir == s.dir) (same_bytes s.name s.name) (number-refl s.dir) (bytes-refl s.name)

spot_is : (a b : Spot) → same_spot a b ≡ true → a ≡ b
spot_is a b e =
    let dir = number_is a.dir b.dir (first (a.dir == b.dir) (same_bytes a.name b.name) e) in
    let name = bytes_are a.name b.name (second (a.dir == b.dir) (same_bytes a.name b.name) e) in
    λ i. record { dir = dir i; name = name i }

entry-refl : (e : Spot × ℕ) → same_entry e e ≡ true
entry-refl e = both (same_spot e.0 e.0) (e.1 == e.1) (spot-refl e.0) (number-refl e.1)

entry_is : (a b : Spot × ℕ) → same_entry a b ≡ true → a ≡ b
entry_is a b e =
    let spot = spot_is a.0 b.0 (first (same_spot a.0 b.0) (a.1 == b.1) e) in
    let target = number_is a.1 b.1 (second (same_spot a.0 b.0) (a.1 == b.1) e) in
    λ i. (spot i, target i)

numbered-refl : (e : ℕ × Inode) → same_numbered e e ≡ true
numbered-refl e = both (e.0 == e.0) (same_inode e.1 e.1) (number-refl e.0) (inode-refl e.1)

numbered_is : (a b : ℕ × Inode) → same_numbered a b ≡ true → a ≡ b
numbered_is a b e =
    let number = number_is a.0 b.0 (first (a.0 == b.0) (same_inode a.1 b.1) e) in
    let inode = inode_is a.1 b.1 (second (a.0 == b.0) (same_inode a.1 b.1) e) in
    λ i. (number i, inode i)

pub same_tree-refl : (t : Tree) → same_tree t t ≡ true
same_tree-refl t =
    let entries = pointwise-refl same_entry entry-refl t.entries in
    let inodes = pointwise-refl same_numbered numbered-refl t.inodes in
    both (pointwise same_entry t.entries t.entries && pointwise same_numbered t.inodes t.inodes) (t.next == t.next)
    (both (pointwise same_entry t.entries t.entries) (pointwise same_numbered t.inodes t.inodes) entries inodes) (number-refl t.next)

pub same_tree_is : (t u : Tree) → same_tree t u ≡ true → t ≡ u
same_tree_is t u e =
    let lists = first (pointwise same_entry t.entries u.entries && pointwise same_numbered t.inodes u.inodes) (t.next == u.next) e in
    let next = number_is t.next u.next (second (pointwise same_entry t.entries u.entries && pointwise same_numbered t.inodes u.inodes) (t.next == u.next) e) in
    let entries = pointwise_is same_entry entry_is t.entries u.entries (first (pointwise same_entry t.entries u.entries) (pointwise same_numbered t.inodes u.inodes) lists) in
    let inodes = pointwise_is same_numbered numbered_is t.inodes u.inodes (second (pointwise same_entry t.entries u.entries) (pointwise same_numbered t.inodes u.inodes) lists) in
    λ i. record { entries = entries i; inodes = inodes i; next = next i }

by_trees : (t u : Tree) (b : Bool) → same_tree t u ≡ b → t ≢ u → IsTrue (not b)
by_trees t u true e other = absurd (other (same_tree_is t u e))
by_trees t u false e other = refl

-- a call that leaves another tree alters it
pub alters_so : (limit : ℕ) (t : Tree) (request : Request) → tree_after limit t request ≢ t → alters limit t request ≡ true
alters_so limit t request other = by_trees (tree_after limit t request) t (same_tree (tree_after limit t request) t) refl other

-- what is true exactly if a call alters the tree is the test of it
pub alters_decided : (limit : ℕ) (t : Tree) (request : Request) (b : Bool) → (IsTrue b ↔ Alters limit t request) → b ≡ alters limit t request
alters_decided limit t request true is = sym (alters_so limit t request (is.0 refl))
alters_decided limit t request false is = sym (by_test (same_tree (tree_after limit t request) t) refl)
  where
    by_test : (same : Bool) → same_tree (tree_after limit t request) t ≡ same → alters limit t request ≡ false
    by_test true e = ap not e
    by_test false e = let other : Alters limit t request = λ h. true≢false (sym (ap (λ (u : Tree). same_tree u t) h ∙ same_tree-refl t) ∙ e) in absurd (true≢false (sym (is.1 other)))

pub alters_found : {E : Type 0} (r : Result Bool E) (limit : ℕ) (t : Tree) (request : Request) → IfOk r (λ b. IsTrue b ↔ Alters limit t request) → IfOk r (λ b. b ≡ alters limit t request)
alters_found (Ok b) limit t request is = alters_decided limit t request b is
alters_found (Err e) limit t request is = is

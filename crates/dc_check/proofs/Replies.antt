-- The test of two replies tells whether they give one answer.
use Rattle.std.proofs.Common.{◌≡◌, ℕ, ◌==◌, ◌&&◌, Bool, true, false, List, [], ◌∷◌, map, refl, sym, ap, ◌∙◌, arith}
use Rattle.std.specs.Cmp.Lexicographic.{pointwise}
use Rattle.std.proofs.lemmas.Bool.Decides.{nat_tests}
use Rattle.dc_names.specs.declared.kind.Kind.{Kind}
use Rattle.dc_names.specs.declared.kind.Kind.TheVariants.{Dir, File, Link}
use Rattle.dc_names.specs.contracts.kind.KindPartialEq.TheImpl as kinds
use Rattle.dc_plain.specs.declared.call.Reply as rust_reply
use Rattle.dc_plain.specs.declared.call.Reply.TheVariants as replies
use Rattle.dc_plain.specs.contracts.call.ReplyPartialEq.TheImpl as equality
use Rattle.dc_plain.specs.Requests.{answer_of}
use Rattle.dc_plain.specs.Requests.Answer.{Found, Done, Bytes, Names, Counted, Refused}

left : (a b : Bool) → (a && b) ≡ true → a ≡ true
left true b e = refl
left false b e = cc

right : (a b : Bool) → (a && b) ≡ true → b ≡ true
right true b e = e
right false b e = cc

both : (a b : Bool) → a ≡ true → b ≡ true → (a && b) ≡ true
both a b p q = cc

number_is : (m n : ℕ) → (m == n) ≡ true → m ≡ n
number_is m n e = grind (arith, nat_tests)

number_same : (m n : ℕ) → m ≡ n → (m == n) ≡ true
number_same m n e = grind (arith, nat_tests)

kind_is : (j k : Kind) → kinds.ghosts.eq j k ≡ true → j ≡ k
kind_is Dir Dir e = refl
kind_is File File e = refl
kind_is Link Link e = refl
kind_is Dir _ e = cc
kind_is File _ e = cc
kind_is Link _ e = cc

kind_self : (k : Kind) → kinds.ghosts.eq k k ≡ true
kind_self Dir = refl
kind_self File = refl
kind_self Link = refl

kind_same : (j k : Kind) → j ≡ k → kinds.ghosts.eq j k ≡ true
kind_same j k e = ap (kinds.ghosts.eq j) (sym e) ∙ kind_self j

-- a test that tells what two items show tells it of lists
lists_are : {X Y : Type 0} (same : X → X → Bool) (shown : X → Y) → ((x y : X) → same x y ≡ true → shown x ≡ shown y) → (xs ys : List X) → pointwise same xs ys ≡ true → map shown xs ≡ map shown ys
lists_are same shown is [] [] e = refl
lists_are same shown is [] (y ∷ ys) e = cc
lists_are same shown is (x ∷ xs) [] e = cc
lists_are same shown is (x ∷ xs) (y ∷ ys) e =
    ap (λ z. z ∷ map shown xs) (is x y (left (same x y) (pointwise same xs ys) e)) ∙ ap (λ zs. shown y ∷ zs) (lists_are same shown is xs ys (right (same x y) (pointwise same xs ys) e))

first_of : {Y : Type 0} (x y : Y) (xs ys : List Y) → x ∷ xs ≡ y ∷ ys → x ≡ y
first_of x y xs ys e = cc

rest_of : {Y : Type 0} (x y : Y) (xs ys : List Y) → x ∷ xs ≡ y ∷ ys → xs ≡ ys
rest_of x y xs ys e = cc

lists_same : {X Y : Type 0} (same : X → X → Bool) (shown : X → Y) → ((x y : X) → shown x ≡ shown y → same x y ≡ true) → (xs ys : List X) → map shown xs ≡ map shown ys → pointwise same xs ys ≡ true
lists_same same shown is [] [] e = refl
lists_same same shown is [] (y ∷ ys) e = cc
lists_same same shown is (x ∷ xs) [] e = cc
lists_same same shown is (x ∷ xs) (y ∷ ys) e =
    both (same x y) (pointwise same xs ys) (is x y (first_of (shown x) (shown y) (map shown xs) (map shown ys) e)) (lists_same same shown is xs ys (rest_of (shown x) (shown y) (map shown xs) (map shown ys) e))

bytes_are : (xs ys : List ℕ) → pointwise (λ a b. a == b) xs ys ≡ true → xs ≡ ys
bytes_are [] [] e = refl
bytes_are [] (y ∷ ys) e = cc
bytes_are (x ∷ xs) [] e = cc
bytes_are (x ∷ xs) (y ∷ ys) e =
    ap (λ z. z ∷ xs) (number_is x y (left (x == y) (pointwise (λ a b. a == b) xs ys) e)) ∙ ap (λ zs. y ∷ zs) (bytes_are xs ys (right (x == y) (pointwise (λ a b. a == b) xs ys) e))

bytes_same : (xs ys : List ℕ) → xs ≡ ys → pointwise (λ a b. a == b) xs ys ≡ true
bytes_same [] [] e = refl
bytes_same [] (y ∷ ys) e = cc
bytes_same (x ∷ xs) [] e = cc
bytes_same (x ∷ xs) (y ∷ ys) e = both (x == y) (pointwise (λ a b. a == b) xs ys) (number_same x y (first_of x y xs ys e)) (bytes_same xs ys (rest_of x y xs ys e))

found_is : (m n : ℕ) (j k : Kind) → ((m == n) && kinds.ghosts.eq j k) ≡ true → Found m j ≡ Found n k
found_is m n j k e =
    ap (λ x. Found x j) (number_is m n (left (m == n) (kinds.ghosts.eq j k) e)) ∙ ap (Found n) (kind_is j k (right (m == n) (kinds.ghosts.eq j k) e))

found_same : (m n : ℕ) (j k : Kind) → Found m j ≡ Found n k → ((m == n) && kinds.ghosts.eq j k) ≡ true
found_same m n j k e = both (m == n) (kinds.ghosts.eq j k) (number_same m n (let f : m ≡ n = cc in f)) (kind_same j k (let f : j ≡ k = cc in f))

counted_is : (m n : ℕ) (j k : Kind) (c d : ℕ) → ((m == n) && (kinds.ghosts.eq j k && (c == d))) ≡ true → Counted m j c ≡ Counted n k d
counted_is m n j k c d e =
    let rest = right (m == n) (kinds.ghosts.eq j k && (c == d)) e in
    ap (λ x. Counted x j c) (number_is m n (left (m == n) (kinds.ghosts.eq j k && (c == d)) e))
    ∙ ap (λ x. Counted n x c) (kind_is j k (left (kinds.ghosts.eq j k) (c == d) rest)) ∙ ap (Counted n k) (number_is c d (right (kinds.ghosts.eq j k) (c == d) rest))

counted_same : (m n : ℕ) (j k : Kind) (c d : ℕ) → Counted m j c ≡ Counted n k d → ((m == n) && (kinds.ghosts.eq j k && (c == d))) ≡ true
counted_same m n j k c d e = both (m == n) (kinds.ghosts.eq j k && (c == d)) (number_same m n (let f : m ≡ n = cc in f))
    (both (kinds.ghosts.eq j k) (c == d) (kind_same j k (let f : j ≡ k = cc in f)) (number_same c d (let f : c ≡ d = cc in f)))

pub same_reply : (a b : rust_reply.Reply) → (equality.ghosts.eq a b ≡ true → answer_of a ≡ answer_of b) × (answer_of a ≡ answer_of b → equality.ghosts.eq a b ≡ true)
same_reply (replies.Found m j) (replies.Found n k) = (found_is m n j k, found_same m n j k)
same_reply (replies.Found m j) _ = (λ e. cc, λ e. cc)
same_reply (replies.Done m) (replies.Done n) = (λ e. ap Done (number_is m n e), λ e. number_same m n (let f : m ≡ n = cc in f))
same_reply (replies.Done m) _ = (λ e. cc, λ e. cc)
same_reply replies.Unit replies.Unit = (λ e. refl, λ e. refl)
same_reply replies.Unit _ = (λ e. cc, λ e. cc)
same_reply (replies.Text x) (replies.Text y) = (λ e. ap Bytes (bytes_are x.items y.items e), λ e. bytes_same x.items y.items (let f : x.items ≡ y.items = cc in f))
same_reply (replies.Text x) _ = (λ e. cc, λ e. cc)
same_reply (replies.Names x) (replies.Names y) = (
  λ e. ap Names (lists_are _ (λ name. name.items) (λ a b. bytes_are a.items b.items) x.items y.items e),
  λ e. lists_same _ (λ name. name.items) (λ a b. bytes_same a.items b.items) x.items y.items (let f : map (λ name. name.items) x.items ≡ map (λ name. name.items) y.items = cc in f),
)
same_reply (replies.Names x) _ = (λ e. cc, λ e. cc)
same_reply (replies.Stat m j c) (replies.Stat n k d) = (counted_is m n j k c d, counted_same m n j k c d)
same_reply (replies.Stat m j c) _ = (λ e. cc, λ e. cc)
same_reply (replies.Refused m) (replies.Refused n) = (λ e. ap Refused (number_is m n e), λ e. number_same m n (let f : m ≡ n = cc in f))
same_reply (replies.Refused m) _ = (λ e. cc, λ e. cc)

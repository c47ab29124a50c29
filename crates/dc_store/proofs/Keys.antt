-- The order of the keys is the order of their spots.
use Rattle.std.proofs.Common.{◌≡◌, ℕ, zero, suc, ◌+◌, ◌*◌, ◌/◌, ◌%◌, ◌^◌, ◌<◌, List, [], ◌∷◌, ◌++◌, length, take, drop, refl, ap, sym, ◌∙◌, subst, arith}
use Rattle.std.proofs.Common.{◌⊎◌, inl, inr}
use Rattle.std.proofs.Math.Nat.{pow-suc, one-le-pow, mul_comm, mul_assoc, mod-eq_of_lt}
use Rattle.std.proofs.lemmas.Bool.{cases_order}
use Rattle.std.specs.declared.cmp.Ordering.{Ordering}
use Rattle.std.specs.declared.cmp.Ordering.TheVariants.{Less, Equal, Greater}
use Rattle.std.specs.Cmp.{nat_cmp_is}
use Rattle.std.specs.Cmp.Lexicographic.{slice_cmp}
use Rattle.std.specs.Ordering.{nat_cmp, ordering_then}
use Rattle.std.specs.Int.{bytes_high_first, byte_at}
use Rattle.std.proofs.lemmas.Nat.{from_be_bytes-to_be_bytes_8, div-add-mod', mod-mul-add, mul-add-lt, mod_below}
use Rattle.std.proofs.Math.Seq.{take-append_seam, drop-append_seam}
use Rattle.dc_plain.specs.Trees.{Spot, spot_cmp}
use Rattle.dc_store.specs.Keys.{number_bytes, number_in, key_of, spot_in, IsKey}

-- two texts of one length before two others decide first
pub cmp-append : (ms ns xs ys : List ℕ) → length ms ≡ length ns → slice_cmp nat_cmp (ms ++ xs) (ns ++ ys) ≡ ordering_then (slice_cmp nat_cmp ms ns) (slice_cmp nat_cmp xs ys)
cmp-append [] [] xs ys same = refl
cmp-append [] (n ∷ ns) xs ys same = absurd (omega arith)
cmp-append (m ∷ ms) [] xs ys same = absurd (omega arith)
cmp-append (m ∷ ms) (n ∷ ns) xs ys same =
    ap (ordering_then (nat_cmp m n)) (cmp-append ms ns xs ys (omega arith)) ∙ regroup (nat_cmp m n) (slice_cmp nat_cmp ms ns) (slice_cmp nat_cmp xs ys)
  where
    regroup : (o p q : Ordering) → ordering_then o (ordering_then p q) ≡ ordering_then (ordering_then o p) q
    regroup Less p q = refl
    regroup Equal p q = refl
    regroup Greater p q = refl

row_below : (w a b r s : ℕ) → a < b → r < w → a * w + r < b * w + s
row_below w a b r s p q = let fits = mul-add-lt a w r b p q in grind (arith, fits)

-- the higher digit decides first
digits : (w a b r s : ℕ) → r < w → s < w → nat_cmp (a * w + r) (b * w + s) ≡ ordering_then (nat_cmp a b) (nat_cmp r s)
digits w a b r s p q =
    elim (cases_order a b) [
      | inl same ↦ lower (cases_order r s) same
      | inr (inl less) ↦ sym (nat_cmp_is (a * w + r) (b * w + s) Less (row_below w a b r s less p)) ∙ ap (λ o. ordering_then o (nat_cmp r s)) (nat_cmp_is a b Less less)
      | inr (inr more) ↦ sym (nat_cmp_is (a * w + r) (b * w + s) Greater (row_below w b a s r more q)) ∙ ap (λ o. ordering_then o (nat_cmp r s)) (nat_cmp_is a b Greater more)
    ]
  where
    lower : (r ≡ s) ⊎ ((r < s) ⊎ (s < r)) → a ≡ b → nat_cmp (a * w + r) (b * w + s) ≡ ordering_then (nat_cmp a b) (nat_cmp r s)
    lower (inl e) same =
        sym (nat_cmp_is (a * w + r) (b * w + s) Equal (λ i. same i * w + e i)) ∙ (λ i. ordering_then (nat_cmp_is a b Equal same i) (nat_cmp_is r s Equal e i))
    lower (inr (inl less)) same =
        let rows_same : a * w ≡ b * w = ap (λ x. x * w) same in
        sym (nat_cmp_is (a * w + r) (b * w + s) Less (omega arith)) ∙ (λ i. ordering_then (nat_cmp_is a b Equal same i) (nat_cmp_is r s Less less i))
    lower (inr (inr more)) same =
        let rows_same : a * w ≡ b * w = ap (λ x. x * w) same in
        sym (nat_cmp_is (a * w + r) (b * w + s) Greater (omega arith)) ∙ (λ i. ordering_then (nat_cmp_is a b Equal same i) (nat_cmp_is r s Greater more i))

byte_is : (k n : ℕ) → byte_at k n ≡ n / 256 ^ k % 256
byte_is zero n = grind arith
byte_is (suc k) n = refl

power_pos : (k : ℕ) → 0 < 256 ^ k
power_pos k = grind (arith, one-le-pow)

low_by : (w n q d r : ℕ) → n ≡ (q * 256 + d) * w + r → d < 256 → r < w → n % (w * 256) ≡ d * w + r
low_by w n q d r is p h =
    ap (λ x. x % (w * 256)) (is ∙ apart) ∙ mod-mul-add q (w * 256) (d * w + r) (mul-add-lt d w r 256 p h)
  where
    apart : (q * 256 + d) * w + r ≡ q * (w * 256) + (d * w + r)
    apart = grind (arith, mul_comm, mul_assoc)

low : (k n : ℕ) → n % 256 ^ suc k ≡ byte_at k n * 256 ^ k + n % 256 ^ k
low k n =
    let w = 256 ^ k in
    ap (λ x. n % x) (pow-suc 256 k)
    ∙ low_by w n (n / w / 256) (n / w % 256) (n % w) (sym (div-add-mod' n w) ∙ ap (λ x. x * w + n % w) (sym (div-add-mod' (n / w) 256))) (mod_below (n / w) 256 (omega arith)) (mod_below n w (power_pos k))
    ∙ ap (λ x. x * w + n % w) (sym (byte_is k n))

bytes_cmp : (k m n : ℕ) → slice_cmp nat_cmp (bytes_high_first k m) (bytes_high_first k n) ≡ nat_cmp (m % 256 ^ k) (n % 256 ^ k)
bytes_cmp zero m n = grind arith
bytes_cmp (suc k) m n =
    let pos = power_pos k in
    ap (ordering_then (nat_cmp (byte_at k m) (byte_at k n))) (bytes_cmp k m n)
    ∙ sym (digits (256 ^ k) (byte_at k m) (byte_at k n) (m % 256 ^ k) (n % 256 ^ k) (mod_below m (256 ^ k) pos) (mod_below n (256 ^ k) pos))
    ∙ (λ i. nat_cmp (sym (low k m) i) (sym (low k n) i))

pub length-number_bytes : (n : ℕ) → length (number_bytes n) ≡ 8
unfolding number_bytes
length-number_bytes n = refl

pub cmp-number_bytes : (m n : ℕ) → m < 2 ^ 64 → n < 2 ^ 64 → slice_cmp nat_cmp (number_bytes m) (number_bytes n) ≡ nat_cmp m n
unfolding number_bytes
cmp-number_bytes m n p q = bytes_cmp 8 m n ∙ (λ i. nat_cmp (mod-eq_of_lt p i) (mod-eq_of_lt q i))

pub number_in-number_bytes : (n : ℕ) → n < 2 ^ 64 → number_in (number_bytes n) ≡ n
unfolding number_bytes number_in
number_in-number_bytes n p = from_be_bytes-to_be_bytes_8 n p

-- two keys compare as their spots
pub cmp-keys : (a b : Spot) → a.dir < 2 ^ 64 → b.dir < 2 ^ 64 → slice_cmp nat_cmp (key_of a) (key_of b) ≡ spot_cmp a b
cmp-keys a b p q =
    cmp-append (number_bytes a.dir) (number_bytes b.dir) a.name b.name (length-number_bytes a.dir ∙ sym (length-number_bytes b.dir))
    ∙ ap (λ o. ordering_then o (slice_cmp nat_cmp a.name b.name)) (cmp-number_bytes a.dir b.dir p q)

pub spot_in-key_of : (a : Spot) → a.dir < 2 ^ 64 → spot_in (key_of a) ≡ a
spot_in-key_of a p = λ i. record { dir = number i; name = rest i }
  where
    number : number_in (take 8 (key_of a)) ≡ a.dir
    number = ap number_in (ap (λ k. take k (key_of a)) (sym (length-number_bytes a.dir)) ∙ take-append_seam (number_bytes a.dir) a.name) ∙ number_in-number_bytes a.dir p

    rest : drop 8 (key_of a) ≡ a.name
    rest = ap (λ k. drop k (key_of a)) (sym (length-number_bytes a.dir)) ∙ drop-append_seam (number_bytes a.dir) a.name

pub key_of-IsKey : (a : Spot) → a.dir < 2 ^ 64 → IsKey (key_of a)
key_of-IsKey a p = record { spelled = ap key_of (spot_in-key_of a p); fits = subst (λ s. s.dir < 2 ^ 64) (sym (spot_in-key_of a p)) p }

-- a key in a map compares as its spot
pub cmp-key : (a : Spot) (key : List ℕ) → a.dir < 2 ^ 64 → IsKey key → slice_cmp nat_cmp (key_of a) key ≡ spot_cmp a (spot_in key)
cmp-key a key p is = ap (slice_cmp nat_cmp (key_of a)) (sym is.spelled) ∙ cmp-keys a (spot_in key) p is.fits

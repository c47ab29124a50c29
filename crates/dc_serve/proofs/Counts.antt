-- A history is no longer than the records that made it.
use Rattle.std.proofs.Common.{◌≡◌, ℕ, zero, suc, ◌+◌, ◌≤◌, ◌&&◌, Bool, true, false, cond, eqb, List, [], ◌∷◌, ◌++◌, length, refl, ap, arith, le_refl, lt-ltb}
use mathlib.Core.Logic.{dite}
use native.Mathlib.Decide.{ℕ_discrete}
use Rattle.dc_events.specs.Rule.{once_below}
use Rattle.dc_events.specs.Standing.{all_hits, hit, hits}
use Rattle.dc_events.specs.Views.{Record}
use Rattle.dc_serve.specs.Sessions.{size}
use Rattle.dc_serve.proofs.Hits.{hit_off}

pub size-append : (xs ys : List (List Record)) → size (xs ++ ys) ≡ size xs + size ys
size-append [] ys = omega arith
size-append (x ∷ xs) ys = let rest = size-append xs ys in omega arith

-- the sum of f below n
abbrev sum_to : (ℕ → ℕ) → ℕ → ℕ
sum_to f zero = 0
sum_to f (suc n) = sum_to f n + f n

sum_same : (f g : ℕ → ℕ) (n : ℕ) → ((p : ℕ) → f p ≡ g p) → sum_to f n ≡ sum_to g n
sum_same f g zero same = refl
sum_same f g (suc n) same = let rest = sum_same f g n same in let one = same n in omega arith

sum_both : (f g h : ℕ → ℕ) (n : ℕ) → ((p : ℕ) → h p ≡ f p + g p) → sum_to h n ≡ sum_to f n + sum_to g n
sum_both f g h zero same = refl
sum_both f g h (suc n) same = let rest = sum_both f g h n same in let one = same n in omega arith

sum_zero : (f : ℕ → ℕ) (n : ℕ) → ((p : ℕ) → f p ≡ 0) → sum_to f n ≡ 0
sum_zero f zero none = refl
sum_zero f (suc n) none = let rest = sum_zero f n none in let one = none n in omega arith

hit_most : (p : ℕ) (r : Record) → hit p r ≤ 1
hit_most p r = small (r.altered && eqb r.at p)
  where
    small : (b : Bool) → cond b 1 0 ≤ suc zero
    small true = omega arith
    small false = omega arith

-- a record alters at one place at most
one_before : (r : Record) (n : ℕ) → n ≤ r.at → sum_to (λ p. hit p r) n ≡ 0
one_before r zero le = refl
one_before r (suc n) le = let rest = one_before r n (omega arith) in let one = hit_off n r (λ e. omega arith) in omega arith

one_most : (r : Record) (n : ℕ) → sum_to (λ p. hit p r) n ≤ 1
one_most r zero = omega arith
one_most r (suc n) = dite (ℕ_discrete r.at n)
    (λ here. let before = one_before r n (omega arith) in let one = hit_most n r in omega arith)
    (λ other. let rest = one_most r n in let one = hit_off n r other in omega arith)

list_most : (s : List Record) (n : ℕ) → sum_to (λ p. hits p s) n ≤ length s
list_most [] n = let none = sum_zero (λ p. hits p []) n (λ p. refl) in omega arith
list_most (r ∷ rs) n =
    let both = sum_both (λ p. hit p r) (λ p. hits p rs) (λ p. hits p (r ∷ rs)) n (λ p. refl) in
    let one = one_most r n in
    let rest = list_most rs n in
    omega arith

all_most : (ss : List (List Record)) (n : ℕ) → sum_to (λ p. all_hits p ss) n ≤ size ss
all_most [] n = let none = sum_zero (λ p. all_hits p []) n (λ p. refl) in omega arith
all_most (s ∷ ss) n =
    let both = sum_both (λ p. hits p s) (λ p. all_hits p ss) (λ p. all_hits p (s ∷ ss)) n (λ p. refl) in
    let one = list_most s n in
    let rest = all_most ss n in
    omega arith

once_sum : (m n : ℕ) → n ≤ m → sum_to (λ p. once_below p m) n ≡ n
once_sum m zero le = refl
once_sum m (suc n) le =
    let rest = once_sum m n (omega arith) in
    let one : once_below n m ≡ 1 = ap (λ b. cond b 1 0) (lt-ltb n m (omega arith)) in
    omega arith

-- if each call of a history is one record's, there are as many records
pub history_short : (ss : List (List Record)) (m : ℕ) → ((p : ℕ) → all_hits p ss ≡ once_below p m) → m ≤ size ss
history_short ss m once =
    let most = all_most ss m in
    let same = sum_same (λ p. all_hits p ss) (λ p. once_below p m) m once in
    let sum = once_sum m m (le_refl m) in
    omega arith

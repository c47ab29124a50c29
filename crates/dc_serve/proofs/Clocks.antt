-- An input has too few commands to bring the clock to its limit.
use Rattle.std.proofs.Common.{ℕ, zero, suc, ◌+◌, ◌*◌, ◌≤◌, List, [], ◌∷◌, Bool, true, false, cond, ◌==◌, filter, length, map, arith}
use Rattle.std.specs.List.{onto_first, slice_split}
use Rattle.std.proofs.lemmas.List.{length-append}
use Rattle.std.proofs.Math.Nat.{le_refl}
use Rattle.dc_lang.specs.Commands.{Order, Meaning}
use Rattle.dc_lang.specs.Commands.Meaning.{Sync, Orders}
use Rattle.dc_names.specs.declared.limits.TheConstants.{MOST_COUNT, SESSIONS, MOST_INPUT}
use Rattle.dc_lang.specs.Inputs.{AllSay}
use Rattle.dc_lang.specs.Lines.{lines_of}
use Rattle.dc_lang.specs.Phases.{by_session, in_order, is_sync, of_session, of_sessions, orders_in, phases}

length_kept : {X : Type 0} (p : X → Bool) (xs : List X) → length (filter p xs) ≤ length xs
length_kept p [] = omega arith
length_kept p (x ∷ xs) =
    let rest = length_kept p xs in
    elim (p x) as (λ b. length (cond b (x ∷ filter p xs) (filter p xs)) ≤ length (x ∷ xs)) [ true ↦ omega arith | false ↦ omega arith ]

sessions-length : (n : ℕ) (orders : List Order) → length (of_sessions n orders) ≤ n * length orders
unfolding of_sessions
sessions-length zero orders = omega arith
sessions-length (suc n) orders =
    let so_far = sessions-length n orders in
    let these = length_kept (λ order. order.session == n) orders in
    rw (length-append (of_sessions n orders) (of_session n orders)) (omega arith)

orders_in-length : (said : List Meaning) → length (orders_in said) ≤ length said
orders_in-length [] = omega arith
orders_in-length (Sync ∷ said) = let rest = orders_in-length said in omega arith
orders_in-length (Orders order ∷ said) = let rest = orders_in-length said in omega arith

-- how much is said in all parts
abbrev total : List (List Meaning) → ℕ
total [] = 0
total (part ∷ parts) = length part + total parts

split-total : (said : List Meaning) → total (slice_split is_sync said) ≤ length said
split-total [] = le_refl 0
split-total (one ∷ said) =
    let rest = split-total said in
    let more = onto_first-total one (slice_split is_sync said) in
    elim (is_sync one) as (λ t. total (cond t ([] ∷ slice_split is_sync said) (onto_first one (slice_split is_sync said))) ≤ length (one ∷ said)) [ true ↦ omega arith | false ↦ omega arith ]
  where
    onto_first-total : (one : Meaning) (parts : List (List Meaning)) → total (onto_first one parts) ≤ total parts + 1
    onto_first-total one [] = omega arith
    onto_first-total one (part ∷ parts) = omega arith

in_order-length : (parts : List (List Meaning)) → length (in_order (map orders_in parts)) ≤ SESSIONS * total parts
in_order-length [] = omega arith
in_order-length (part ∷ parts) =
    let these = sessions-length SESSIONS (orders_in part) in
    let orders = orders_in-length part in
    let rest = in_order-length parts in
    rw (length-append (by_session (orders_in part)) (in_order (map orders_in parts))) (omega arith)

lines_of-length : (bytes : List ℕ) → length (lines_of bytes) ≤ length bytes
lines_of-length [] = omega arith
lines_of-length (b ∷ bytes) =
    let rest = lines_of-length bytes in
    let more = onto_first-length b (lines_of bytes) in
    elim (b == 10) as (λ t. length (cond t ([] ∷ lines_of bytes) (onto_first b (lines_of bytes))) ≤ length (b ∷ bytes)) [ true ↦ omega arith | false ↦ omega arith ]
  where
    onto_first-length : (b : ℕ) (lines : List (List ℕ)) → length (onto_first b lines) ≤ length lines + 1
    onto_first-length b [] = omega arith
    onto_first-length b (line ∷ lines) = omega arith

says-length : (lines : List (List ℕ)) (said : List Meaning) → AllSay lines said → length said ≤ length lines
says-length [] [] all = omega arith
says-length [] (one ∷ said) all = absurd all
says-length (line ∷ lines) [] all = absurd all
says-length (line ∷ lines) (one ∷ said) all = let rest = says-length lines said all.1 in omega arith

-- a whole input has fewer orders than the clock may count
pub never_spent : (input : List ℕ) (said : List Meaning) → length input ≤ MOST_INPUT → AllSay (lines_of input) said → MOST_COUNT ≤ length (in_order (phases said)) → ⊥
never_spent input said fits says spent =
    let orders = in_order-length (slice_split is_sync said) in
    let parts = split-total said in
    let lines = says-length (lines_of input) said says in
    let bytes = lines_of-length input in
    omega arith

-- Strands that merge into a run are stamps that are legal.
use Rattle.std.proofs.Common.{◌≡◌, ◌≢◌, ℕ, zero, suc, ◌+◌, ◌<◌, ◌≤◌, ◌==◌, Bool, true, false, cond, List, [], ◌∷◌, length, set, map, refl, sym, ap, ap₂, ◌∙◌, subst, arith, length-set}
use Rattle.std.proofs.lemmas.Bool.Decides.{nat_tests}
use mathlib.Core.Logic.{dite}
use mathlib.Core.Option.{some, some-injective}
use native.Mathlib.Decide.{ℕ_discrete}
use lib.ListN.{get_elem?}
use Rattle.atomic_table.proofs.Lists.{set_here, set_else}
use Rattle.dc_plain.specs.Legal.{Stamp, IsRun, of_actor}
use Rattle.dc_plain.specs.Legal as stamps
use Rattle.dc_plain.specs.Requests.{Request}
use Rattle.dc_plain.specs.Runs.{alters, tree_after, clock_after}
use Rattle.dc_plain.specs.Trees.{Tree}
use Rattle.dc_core.proofs.Seats.{within_list}
use Rattle.dc_events.specs.Legal.{Runs, Merges, Legal}
use Rattle.dc_events.specs.Standing.{weight}
use Rattle.dc_events.specs.Views.{Record}
use Rattle.dc_core.specs.Lives.{Done, finished_of, strand, strands, stamp_of}
use Rattle.dc_core.specs.Machine.{Actor}

same_one : (j : ℕ) → (j == j) ≡ true
same_one j = grind (arith, nat_tests)

other_one : (i j : ℕ) → i ≢ j → (i == j) ≡ false
other_one i j ne = grind (arith, nat_tests)

is_one : (i j : ℕ) → (i == j) ≡ true → i ≡ j
is_one i j e = grind (arith, nat_tests)

-- the records in their order, each with its actor
abbrev named : (ss : List (List Record)) (xs : List Record) → Merges ss xs → List Done
named ss [] m = []
named ss (x ∷ xs) (i, rest, e, m) = record { actor = i; record_made = x } ∷ named (set ss i rest) xs m

-- each actor's are its strand
named_strand : (ss : List (List Record)) (xs : List Record) (m : Merges ss xs) (j : ℕ) (s : List Record) → get_elem? ss j ≡ some s → strand j (named ss xs m) ≡ s
named_strand ss [] m j s at = sym (m j s at)
named_strand ss (x ∷ xs) (i, rest, e, m) j s at = dite (ℕ_discrete i j)
    (λ same. let here : get_elem? (set ss i rest) j ≡ some rest = subst (λ k. get_elem? (set ss i rest) k ≡ some rest) same (set_here ss i rest (within_list ss i (x ∷ rest) e)) in
    ap (λ b. cond b (x ∷ strand j (named (set ss i rest) xs m)) (strand j (named (set ss i rest) xs m))) (subst (λ k. (i == k) ≡ true) same (same_one i))
    ∙ ap (λ l. x ∷ l) (named_strand (set ss i rest) xs m j rest here) ∙ some-injective (x ∷ rest) s (sym e ∙ ap (get_elem? ss) same ∙ at))
    (λ other. ap (λ b. cond b (x ∷ strand j (named (set ss i rest) xs m)) (strand j (named (set ss i rest) xs m))) (other_one i j other)
    ∙ named_strand (set ss i rest) xs m j s (set_else ss i j rest (λ h. other (sym h)) ∙ at))

-- and nobody else has one
named_none : (ss : List (List Record)) (xs : List Record) (m : Merges ss xs) (j : ℕ) → length ss ≤ j → strand j (named ss xs m) ≡ []
named_none ss [] m j past = refl
named_none ss (x ∷ xs) (i, rest, e, m) j past = let less = within_list ss i (x ∷ rest) e in let len = length-set ss i rest in
    ap (λ b. cond b (x ∷ strand j (named (set ss i rest) xs m)) (strand j (named (set ss i rest) xs m))) (other_one i j (λ h. omega arith))
    ∙ named_none (set ss i rest) xs m j (omega arith)

strand_none : (ds : List Done) (n j : ℕ) → ((i : ℕ) (d : Done) → get_elem? ds i ≡ some d → d.actor < n) → n ≤ j → strand j ds ≡ []
strand_none [] n j known past = refl
strand_none (d ∷ ds) n j known past = let k = known 0 d refl in
    ap (λ b. cond b (d.record_made ∷ strand j ds) (strand j ds)) (other_one d.actor j (λ h. omega arith)) ∙ strand_none ds n j (λ i. known (suc i)) past

abbrev stamp_at : ℕ → Record → Stamp
stamp_at j r = record { actor = j; request = r.call; answer = r.reply; at = r.at }

abbrev stamps_of : List Done → List Stamp
stamps_of ds = map (λ d. stamp_of (finished_of d)) ds

of_strand : (j : ℕ) (ds : List Done) → of_actor j (stamps_of ds) ≡ map (stamp_at j) (strand j ds)
of_strand j [] = refl
of_strand j (d ∷ ds) = by_test (of_strand j ds) (d.actor == j) refl
  where
    by_test : of_actor j (stamps_of ds) ≡ map (stamp_at j) (strand j ds) → (b : Bool) → (d.actor == j) ≡ b → cond b (stamp_of (finished_of d) ∷ of_actor j (stamps_of ds)) (of_actor j (stamps_of ds)) ≡ map (stamp_at j) (cond b (d.record_made ∷ strand j ds) (strand j ds))
    by_test rest true e = ap₂ (λ k l. record { actor = k; request = d.record_made.call; answer = d.record_made.reply; at = d.record_made.at } ∷ l) (is_one d.actor j e) rest
    by_test rest false e = rest

later_clock : (limit : ℕ) (t : Tree) (call : Request) (n : ℕ) (b : Bool) → alters limit t call ≡ b → n + weight b ≡ clock_after limit t call n
later_clock limit t call n true e = sym (ap (λ b. cond b (n + 1) n) e)
later_clock limit t call n false e = Rattle.std.proofs.Common.add-zero n ∙ sym (ap (λ b. cond b (n + 1) n) e)

run_so : (limit : ℕ) (t : Tree) (n : ℕ) (ss : List (List Record)) (xs : List Record) (m : Merges ss xs) → Runs limit t n xs → IsRun limit t n (stamps_of (named ss xs m))
run_so limit t n ss [] m runs = tt
run_so limit t n ss (x ∷ xs) (i, rest, e, m) runs = (
  runs.0,
  sym runs.1,
  subst (λ k. IsRun limit (tree_after limit t x.call) k (stamps_of (named (set ss i rest) xs m))) (later_clock limit t x.call n x.altered runs.2) (run_so limit (tree_after limit t x.call) (n + weight x.altered) (set ss i rest) xs m runs.3),
)

strand_there : (ds : List Done) (k : ℕ) (us : List Actor) (j : ℕ) → j < length us → get_elem? (strands ds k us) j ≡ some (strand (k + j) ds)
strand_there ds k [] j less = absurd (omega arith)
strand_there ds k (u ∷ us) zero less = let z : k ≡ k + 0 = omega arith in ap (λ n. some (strand n ds)) z
strand_there ds k (u ∷ us) (suc j) less = let z : suc k + j ≡ k + suc j = omega arith in strand_there ds (suc k) us j (omega arith) ∙ ap (λ n. some (strand n ds)) z

strands_length : (ds : List Done) (k : ℕ) (us : List Actor) → length (strands ds k us) ≡ length us
strands_length ds k [] = refl
strands_length ds k (u ∷ us) = ap suc (strands_length ds (suc k) us)

pub stamped : (limit : ℕ) (us : List Actor) (ds : List Done) → ((i : ℕ) (d : Done) → get_elem? ds i ≡ some d → d.actor < length us) → Legal limit (strands ds 0 us) → stamps.IsLegal limit (map stamp_of (map finished_of ds))
stamped limit us ds known L = let ss = strands ds 0 us in let order = named ss L.order L.merges in record {
  order = stamps_of order;
  kept = λ j. of_strand j order ∙ ap (map (stamp_at j)) (strands_meet j) ∙ sym (of_strand j ds) ∙ ap (of_actor j) (sym (twice ds));
  run = run_so limit Rattle.dc_plain.specs.Trees.empty_tree 0 ss L.order L.merges L.runs;
}
  where
    twice : (ds : List Done) → map stamp_of (map finished_of ds) ≡ map (λ d. stamp_of (finished_of d)) ds
    twice [] = refl
    twice (d ∷ ds) = ap (λ l. stamp_of (finished_of d) ∷ l) (twice ds)

    strands_meet : (j : ℕ) → strand j (named (strands ds 0 us) L.order L.merges) ≡ strand j ds
    strands_meet j = let len = strands_length ds 0 us in dite (native.Mathlib.Decide.dec_lt j (length us))
        (λ less. let z : 0 + j ≡ j = omega arith in named_strand (strands ds 0 us) L.order L.merges j (strand j ds) (strand_there ds 0 us j less ∙ ap (λ n. some (strand n ds)) z))
        (λ more. named_none (strands ds 0 us) L.order L.merges j (omega arith) ∙ sym (strand_none ds (length us) j known (omega arith)))

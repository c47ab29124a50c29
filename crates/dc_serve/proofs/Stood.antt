-- Records that stand in a history, list by list, and in a front of it.
use Rattle.std.proofs.Common.{◌≡◌, ℕ, zero, suc, ◌<◌, ◌≤◌, List, [], ◌∷◌, ◌++◌, take, refl, ap, sym, ◌∙◌, subst, arith}
use mathlib.Core.Logic.{dite}
use mathlib.Core.Option.{some, some-injective, some-ne-none}
use native.Mathlib.Decide.{ℕ_discrete}
use lib.ListN.{get_elem?}
use Rattle.std.proofs.lemmas.List.{length-take}
use Rattle.std.specs.List.{flat_map}
use Rattle.dc_events.specs.Standing.{Rising, Stands, after, ends, tree_of, weight}
use Rattle.dc_events.specs.Views.{Record}
use Rattle.dc_names.specs.declared.limits.TheConstants.{SESSIONS}
use Rattle.dc_plain.specs.Requests.{Request}
use Rattle.dc_plain.specs.Runs.{alters, reply_of}
use Rattle.dc_serve.specs.Sessions.{present, some_of}
use Rattle.dc_serve.specs.Turns.{Turn, all_of, strand, strands}
use Rattle.dc_serve.proofs.Sessions.{strand-append}
use Rattle.dc_serve.proofs.Strands.{ends_up}

-- all records of a list stand in a history
abbrev pub AllStand : ℕ → List Request → List Record → Type 0
AllStand n h [] = Unit {0}
AllStand n h (r ∷ rs) = Stands n h r × AllStand n h rs

abbrev pub ListsStand : ℕ → List Request → List (List Record) → Type 0
ListsStand n h [] = Unit {0}
ListsStand n h (s ∷ ss) = AllStand n h s × ListsStand n h ss

pub stand_all : (n : ℕ) (h : List Request) (s : List Record) → ((j : ℕ) (r : Record) → get_elem? s j ≡ some r → Stands n h r) → AllStand n h s
stand_all n h [] f = tt
stand_all n h (r ∷ rs) f = (f 0 r refl, stand_all n h rs (λ j. f (suc j)))

pub stand_at : (n : ℕ) (h : List Request) (s : List Record) → AllStand n h s → (j : ℕ) (r : Record) → get_elem? s j ≡ some r → Stands n h r
stand_at n h [] a j r e = absurd (some-ne-none r (sym e))
stand_at n h (x ∷ xs) a zero r e = subst (Stands n h) (some-injective x r e) a.0
stand_at n h (x ∷ xs) a (suc j) r e = stand_at n h xs a.1 j r e

pub lists_stand : (n : ℕ) (h : List Request) (ss : List (List Record)) → ((i : ℕ) (s : List Record) → get_elem? ss i ≡ some s → AllStand n h s) → ListsStand n h ss
lists_stand n h [] f = tt
lists_stand n h (s ∷ ss) f = (f 0 s refl, lists_stand n h ss (λ i. f (suc i)))

pub lists_at : (n : ℕ) (h : List Request) (ss : List (List Record)) → ListsStand n h ss → (i : ℕ) (s : List Record) → get_elem? ss i ≡ some s → AllStand n h s
lists_at n h [] a i s e = absurd (some-ne-none s (sym e))
lists_at n h (x ∷ xs) a zero s e = subst (AllStand n h) (some-injective x s e) a.0
lists_at n h (x ∷ xs) a (suc i) s e = lists_at n h xs a.1 i s e

pub stand-left : (n : ℕ) (h : List Request) (xs ys : List (List Record)) → ListsStand n h (xs ++ ys) → ListsStand n h xs
stand-left n h [] ys a = tt
stand-left n h (x ∷ xs) ys a = (a.0, stand-left n h xs ys a.1)

stand-right : (n : ℕ) (h : List Request) (xs ys : List (List Record)) → ListsStand n h (xs ++ ys) → ListsStand n h ys
stand-right n h [] ys a = a
stand-right n h (x ∷ xs) ys a = stand-right n h xs ys a.1

pub stand-append : (n : ℕ) (h : List Request) (xs ys : List Record) → AllStand n h xs → AllStand n h ys → AllStand n h (xs ++ ys)
stand-append n h [] ys a b = b
stand-append n h (x ∷ xs) ys a b = (a.0, stand-append n h xs ys a.1 b)

some_stand : (n : ℕ) (h : List Request) (s : List Record) → ListsStand n h (some_of s) → AllStand n h s
some_stand n h [] a = tt
some_stand n h (r ∷ rs) a = a.0

-- the records of each session stand
present_stand : (n : ℕ) (h : List Request) (k : ℕ) (turns : List Turn) → ListsStand n h (present k turns) → (s : ℕ) → s < k → AllStand n h (strand s turns)
unfolding present
present_stand n h zero turns a s less = absurd (omega arith)
present_stand n h (suc k) turns a s less = dite (ℕ_discrete s k)
    (λ here. subst (λ (j : ℕ). AllStand n h (strand j turns)) (sym here) (some_stand n h (strand k turns) (stand-right n h (present k turns) (some_of (strand k turns)) a)))
    (λ other. present_stand n h k turns (stand-left n h (present k turns) (some_of (strand k turns)) a) s (omega arith))

pub rounds_stand : (n : ℕ) (h : List Request) (turns : List (List Turn)) → ListsStand n h (flat_map (present SESSIONS) turns) → (s : ℕ) → s < SESSIONS → AllStand n h (strand s (all_of turns))
rounds_stand n h [] a s less = tt
rounds_stand n h (t ∷ turns) a s less =
    subst (AllStand n h) (sym (strand-append s t (all_of turns)))
    (stand-append n h (strand s t) (strand s (all_of turns)) (present_stand n h SESSIONS t (stand-left n h (present SESSIONS t) (flat_map (present SESSIONS) turns) a) s less)
    (rounds_stand n h turns (stand-right n h (present SESSIONS t) (flat_map (present SESSIONS) turns) a) s less))

-- lists for each session, from facts on each
pub strands_stand : (n : ℕ) (h : List Request) (k : ℕ) (turns : List Turn) → ((s : ℕ) → s < k → AllStand n h (strand s turns)) → ListsStand n h (strands k turns)
unfolding strands
strands_stand n h zero turns f = tt
strands_stand n h (suc k) turns f = both (strands k turns) (strand k turns) (strands_stand n h k turns (λ s less. f s (omega arith))) (f k (omega arith))
  where
    both : (xs : List (List Record)) (y : List Record) → ListsStand n h xs → AllStand n h y → ListsStand n h (xs ++ y ∷ [])
    both [] y a b = (b, tt)
    both (x ∷ xs) y a b = (a.0, both xs y a.1 b)

-- a history cut at a clock
take_less : (m k : ℕ) (h : List Request) → k ≤ m → take k (take m h) ≡ take k h
take_less m zero h le = refl
take_less zero (suc k) h le = absurd (omega arith)
take_less (suc m) (suc k) [] le = refl
take_less (suc m) (suc k) (x ∷ h) le = ap (λ l. x ∷ l) (take_less m k h (omega arith))

at_less : (m k : ℕ) (h : List Request) → k < m → get_elem? (take m h) k ≡ get_elem? h k
at_less zero k h less = absurd (omega arith)
at_less (suc m) k [] less = refl
at_less (suc m) zero (x ∷ h) less = refl
at_less (suc m) (suc k) (x ∷ h) less = at_less m k h (omega arith)

cut_stands : (n m : ℕ) (h : List Request) (r : Record) → after r ≤ m → Stands n h r → Stands n (take m h) r
cut_stands n m h r le s =
    let same = take_less m r.at h (omega arith) in
    record {
      within = let w = s.within in let l = length-take m h in omega arith;
      replied = ap (λ k. reply_of n (tree_of n k) r.call) same ∙ s.replied;
      altering = ap (λ k. alters n (tree_of n k) r.call) same ∙ s.altering;
      placed = λ a. let w : weight r.altered ≡ 1 = ap weight a in at_less m r.at h (omega arith) ∙ s.placed a;
    }

pub cut_all : (n m k : ℕ) (h : List Request) (s : List Record) → Rising k s → ends k s ≤ m → AllStand n h s → AllStand n (take m h) s
cut_all n m k h [] up far a = tt
cut_all n m k h (r ∷ rs) up far a = let low = ends_up (after r) rs up.1 in (cut_stands n m h r (omega arith) a.0, cut_all n m (after r) h rs up.1 far a.1)

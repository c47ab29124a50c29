-- Calls that stand by their phases, with how far those before each went.
use Rattle.std.proofs.Common.{◌≡◌, ℕ, zero, suc, ◌+◌, ◌<◌, ◌≤◌, ◌↔◌, Bool, true, false, cond, List, [], ◌∷◌, drop, get_or, length, nat_lt, refl, sym, ap, ◌∙◌, subst, inl, inr, arith, drop-cons, add-one}
use Rattle.std.proofs.Math.Nat.{eq-or-lt_of_le}
use Rattle.std.specs.Prelude.{IsPermutation, max}
use Rattle.std.proofs.lemmas.Bool.Decides.{nat_tests}
use Rattle.std.proofs.lemmas.List.Sorted.{Contains-permutation, IsPermutation-map, IsPermutation-sym}
use Rattle.dc_lang.specs.Spans.{Span, InPhases}
use Rattle.dc_check.specs.declared.stamp.Mark.{Mark}
use Rattle.dc_check.specs.Judges.{all_spans, end_of, span_of}
use Rattle.dc_check.specs.Reaches.{IsByPhase}
use Rattle.dc_check.proofs.Items.{Has, has, contains}

-- the greatest end of the earlier phases, once a call of this phase is met
abbrev pub earlier_at : ℕ → ℕ → ℕ → ℕ → ℕ
earlier_at phase earlier all next = cond (nat_lt phase next) all earlier

-- each call is behind those of earlier phases
abbrev pub Keeps : ℕ → ℕ → ℕ → List Span → Type 0
Keeps phase earlier all [] = Unit {0}
Keeps phase earlier all (s ∷ ss) = (earlier_at phase earlier all s.phase ≤ s.at) × Keeps s.phase (earlier_at phase earlier all s.phase) (max all s.end) ss

-- the phases don't fall
abbrev Follows : ℕ → List Span → Type 0
Follows phase [] = Unit {0}
Follows phase (s ∷ ss) = (phase ≤ s.phase) × Follows s.phase ss

follows-has : (phase : ℕ) (ss : List Span) → Follows phase ss → (s : Span) → Has ss s → phase ≤ s.phase
follows-has phase [] up s h = absurd h
follows-has phase (x ∷ ss) up s (inl is) = subst (λ (z : Span). phase ≤ z.phase) is up.0
follows-has phase (x ∷ ss) up s (inr more) = let first = up.0 in let rest = follows-has x.phase ss up.1 s more in omega arith

-- the same, of any two
record Kept (phase earlier all : ℕ) (ss : List Span) : Type 0 where
  pub later : (b : Span) → Has ss b → phase < b.phase → all ≤ b.at
  pub level : (b : Span) → Has ss b → phase ≡ b.phase → earlier ≤ b.at
  pub inner : (a b : Span) → Has ss a → Has ss b → a.phase < b.phase → a.end ≤ b.at

earlier-more : (phase earlier all next : ℕ) → phase < next → earlier_at phase earlier all next ≡ all
earlier-more phase earlier all next less = let is : nat_lt phase next ≡ true = grind (arith, nat_tests) in ap (λ (b : Bool). cond b all earlier) is

earlier-same : (phase earlier all next : ℕ) → next ≤ phase → earlier_at phase earlier all next ≡ earlier
earlier-same phase earlier all next le = let is : nat_lt phase next ≡ false = grind (arith, nat_tests) in ap (λ (b : Bool). cond b all earlier) is

kept_more : (phase earlier all : ℕ) (s : Span) (ss : List Span) → Follows phase (s ∷ ss) → earlier_at phase earlier all s.phase ≤ s.at → Kept s.phase (earlier_at phase earlier all s.phase) (max all s.end) ss
    → Kept phase earlier all (s ∷ ss)
kept_more phase earlier all s ss up first rest = record { later = later; level = level; inner = inner }
  where
    later : (b : Span) → Has (s ∷ ss) b → phase < b.phase → all ≤ b.at
    later b (inl is) less =
        let now : phase < s.phase = subst (λ (z : Span). phase < z.phase) (sym is) less in
        subst (λ (z : Span). all ≤ z.at) is (subst (λ n. n ≤ s.at) (earlier-more phase earlier all s.phase now) first)
    later b (inr more) less =
        let after = follows-has s.phase ss up.1 b more in
        let far : s.phase < b.phase → all ≤ b.at = λ further. (let le = rest.later b more further in omega arith) in
        let near : s.phase ≡ b.phase → all ≤ b.at = λ here. (let now : phase < s.phase = omega arith in subst (λ n. n ≤ b.at) (earlier-more phase earlier all s.phase now) (rest.level b more here)) in
        elim (eq-or-lt_of_le after) [
          | inl here ↦ near here
          | inr further ↦ far further
        ]

    level : (b : Span) → Has (s ∷ ss) b → phase ≡ b.phase → earlier ≤ b.at
    level b (inl is) here =
        let now : s.phase ≤ phase = (let same : s.phase ≡ b.phase = ap (λ (z : Span). z.phase) is in omega arith) in
        subst (λ (z : Span). earlier ≤ z.at) is (subst (λ n. n ≤ s.at) (earlier-same phase earlier all s.phase now) first)
    level b (inr more) here =
        let after = follows-has s.phase ss up.1 b more in
        let low = up.0 in
        let now : s.phase ≡ b.phase = omega arith in
        let le : s.phase ≤ phase = omega arith in
        subst (λ n. n ≤ b.at) (earlier-same phase earlier all s.phase le) (rest.level b more now)

    inner : (a b : Span) → Has (s ∷ ss) a → Has (s ∷ ss) b → a.phase < b.phase → a.end ≤ b.at
    inner a b (inl is) (inl was) less = absurd (let p : s.phase ≡ a.phase = ap (λ (z : Span). z.phase) is in let q : s.phase ≡ b.phase = ap (λ (z : Span). z.phase) was in omega arith)
    inner a b (inl is) (inr more) less =
        let p : s.phase ≡ a.phase = ap (λ (z : Span). z.phase) is in
        let e : s.end ≡ a.end = ap (λ (z : Span). z.end) is in
        let le = rest.later b more (omega arith) in omega arith
    inner a b (inr more) (inl was) less =
        let q : s.phase ≡ b.phase = ap (λ (z : Span). z.phase) was in
        let after = follows-has s.phase ss up.1 a more in absurd (omega arith)
    inner a b (inr more) (inr others) less = rest.inner a b more others less

kept : (phase earlier all : ℕ) (ss : List Span) → Follows phase ss → Keeps phase earlier all ss → Kept phase earlier all ss
kept phase earlier all [] up keeps = record { later = λ b h. absurd h; level = λ b h. absurd h; inner = λ a b h. absurd h }
kept phase earlier all (s ∷ ss) up keeps = kept_more phase earlier all s ss up keeps.0 (kept s.phase (earlier_at phase earlier all s.phase) (max all s.end) ss up.1 keeps.1)

keeps : (phase earlier all : ℕ) (ss : List Span) → Follows phase ss → Kept phase earlier all ss → Keeps phase earlier all ss
keeps phase earlier all [] up is = tt
keeps phase earlier all (s ∷ ss) up is = elim (eq-or-lt_of_le up.0) [
  | inl same ↦ (let e = earlier-same phase earlier all s.phase (omega arith) in
      let here : earlier ≤ s.at = is.level s (inl refl) same in (
        subst (λ n. n ≤ s.at) (sym e) here,
        keeps s.phase (earlier_at phase earlier all s.phase) (max all s.end) ss up.1 (record {
          later = λ b h further. (let le = is.later b (inr h) (omega arith) in let over = is.inner s b (inl refl) (inr h) further in omega arith);
          level = λ b h level. subst (λ n. n ≤ b.at) (sym e) (is.level b (inr h) (same ∙ level));
          inner = λ a b h k. is.inner a b (inr h) (inr k);
        }),
      ))
  | inr less ↦ (let e = earlier-more phase earlier all s.phase less in
      let here : all ≤ s.at = is.later s (inl refl) less in (
        subst (λ n. n ≤ s.at) (sym e) here,
        keeps s.phase (earlier_at phase earlier all s.phase) (max all s.end) ss up.1 (record {
          later = λ b h further. (let le = is.later b (inr h) (omega arith) in let over = is.inner s b (inl refl) (inr h) further in omega arith);
          level = λ b h same. subst (λ n. n ≤ b.at) (sym e) (is.later b (inr h) (omega arith));
          inner = λ a b h k. is.inner a b (inr h) (inr k);
        }),
      ))
]

follows-from : (phase : ℕ) (ms : List Mark) → ((d : Mark) → 0 < length ms → phase ≤ (get_or ms 0 d).phase) → IsByPhase ms → Follows phase (all_spans ms)
follows-from phase [] first up = tt
follows-from phase (m ∷ ms) first up = (
  first m (omega arith),
  follows-from m.phase ms (λ d some. up 0 1 d (omega arith) (omega arith)) (λ i j d le within. up (suc i) (suc j) d (omega arith) (omega arith)),
)

-- so they keep the order of the phases
pub in_phases : (ms : List Mark) → IsByPhase ms → Keeps 0 0 0 (all_spans ms) ↔ InPhases (all_spans ms)
in_phases ms by =
    let up = follows-from 0 ms (λ d some. omega arith) by in (
      λ all a b in_a in_b less. (kept 0 0 0 (all_spans ms) up all).inner a b (has (all_spans ms) a in_a) (has (all_spans ms) b in_b) less,
      λ is. keeps 0 0 0 (all_spans ms) up (record {
        later = λ b h less. omega arith;
        level = λ b h same. omega arith;
        inner = λ a b h k less. is a b (contains (all_spans ms) a h) (contains (all_spans ms) b k) less;
      }),
    )

-- in whatever order they stand
pub shuffled_phases : (was now : List Mark) → IsPermutation was now → InPhases (all_spans now) ↔ InPhases (all_spans was)
shuffled_phases was now shuffled =
    let spans = IsPermutation-map span_of was now shuffled in (
      λ is a b in_a in_b. is a b (Contains-permutation (all_spans was) (all_spans now) a spans in_a) (Contains-permutation (all_spans was) (all_spans now) b spans in_b),
      λ is a b in_a in_b. is a b (Contains-permutation (all_spans now) (all_spans was) a (IsPermutation-sym (all_spans was) (all_spans now) spans) in_a) (Contains-permutation (all_spans now) (all_spans was) b (IsPermutation-sym (all_spans was) (all_spans now) spans) in_b),
    )

-- what is left once one more call is met
pub keeps_next : (phase earlier all : ℕ) (ms : List Mark) (i : ℕ) (m other : Mark) → i < length ms → m ≡ get_or ms i other
    → Keeps phase earlier all (all_spans (drop i ms)) ≡ ((earlier_at phase earlier all m.phase ≤ m.at) × Keeps m.phase (earlier_at phase earlier all m.phase) (max all (end_of m)) (all_spans (drop (i + 1) ms)))
keeps_next phase earlier all ms i m other within is =
    ap (λ xs. Keeps phase earlier all (all_spans xs)) (drop-cons ms i other within)
    ∙ ap (λ (x : Mark). (earlier_at phase earlier all x.phase ≤ x.at) × Keeps x.phase (earlier_at phase earlier all x.phase) (max all (end_of x)) (all_spans (drop (suc i) ms))) (sym is)
    ∙ ap (λ (k : ℕ). (earlier_at phase earlier all m.phase ≤ m.at) × Keeps m.phase (earlier_at phase earlier all m.phase) (max all (end_of m)) (all_spans (drop k ms))) (sym (add-one i))

no_more : {A : Type 0} (xs : List A) (i : ℕ) → length xs ≤ i → drop i xs ≡ []
no_more [] zero le = refl
no_more [] (suc i) le = refl
no_more (x ∷ xs) zero le = absurd (omega arith)
no_more (x ∷ xs) (suc i) le = no_more xs i (omega arith)

pub keeps_past : (phase earlier all : ℕ) (ms : List Mark) (i : ℕ) → length ms ≤ i → Keeps phase earlier all (all_spans (drop i ms))
keeps_past phase earlier all ms i le = subst (λ xs. Keeps phase earlier all (all_spans xs)) (sym (no_more ms i le)) tt

-- What is not met on the way up from a directory to the root.
use Rattle.std.proofs.Common.{◌≡◌, ◌≢◌, ℕ, zero, suc, ◌==◌, ◌&&◌, ◌||◌, not, Bool, true, false, Option, Some, None, IsTrue, refl, ap, sym, ◌∙◌, subst}
use Rattle.dc_plain.specs.IsWellFormed.{IsWellFormed, comes_up}
use Rattle.dc_plain.specs.Operations.{is_beneath}
use Rattle.dc_plain.specs.Trees.{Tree, holder_of, if_held, inode_of, is_live_directory}
use Rattle.dc_plain.specs.Trees.Inode.{Directory}
use Rattle.dc_plain.proofs.Holders.{decided, other_test, holder-live}
use Rattle.dc_plain.proofs.Made.{is_directory_in}

or_left : (a b : Bool) → IsTrue a → IsTrue (a || b)
or_left true b h = refl
or_left false b h = cc

two_ways : (b : Bool) → b ≡ true → b ≡ false → ⊥
two_ways true e f = cc
two_ways false e f = cc

held_more : (o : Option ℕ) (f g : ℕ → Bool) → ((k : ℕ) → IsTrue (f k) → IsTrue (g k)) → IsTrue (if_held o f) → IsTrue (if_held o g)
held_more None f g so h = h
held_more (Some k) f g so h = so k h

held_none : (o : Option ℕ) (f g : ℕ → Bool) → ((k : ℕ) → o ≡ Some k → IsTrue (f k) → g k ≡ false) → IsTrue (if_held o f) → if_held o g ≡ false
held_none None f g so h = refl
held_none (Some k) f g so h = so k refl h

-- with a step more one comes up too
longer : (steps : ℕ) (t : Tree) (d : ℕ) → IsTrue (comes_up steps t d) → IsTrue (comes_up (suc steps) t d)
longer zero t d h = or_left (d == 1) (if_held (holder_of t d) (λ up. comes_up zero t up)) h
longer (suc steps) t d h =
    elim (d == 1) as (λ c. IsTrue (c || if_held (holder_of t d) (λ up. comes_up steps t up)) → IsTrue (c || if_held (holder_of t d) (λ up. comes_up (suc steps) t up))) [
      | true ↦ λ h'. refl
      | false ↦ λ h'. held_more (holder_of t d) (λ up. comes_up steps t up) (λ up. comes_up (suc steps) t up) (longer steps t) h'
    ] h

shorter : (steps : ℕ) (t : Tree) (d : ℕ) → comes_up (suc steps) t d ≡ false → comes_up steps t d ≡ false
shorter steps t d not_up = by_test (comes_up steps t d) refl
  where
    by_test : (c : Bool) → comes_up steps t d ≡ c → c ≡ false
    by_test true is = absurd (two_ways (comes_up (suc steps) t d) (longer steps t d is) not_up)
    by_test false is = refl

-- from where one comes up so soon, one doesn't meet what comes up later
never_met : (steps : ℕ) (t : Tree) (d n : ℕ) → IsTrue (comes_up steps t d) → comes_up steps t n ≡ false → is_beneath (suc steps) t d n ≡ false
never_met zero t d n up not_up =
    let passed = other_test d n (λ same. two_ways (n == 1) (ap (λ (k : ℕ). k == 1) (sym same) ∙ up) not_up) in
    rw (passed, up) refl
never_met (suc steps) t d n up not_up =
    let passed = other_test d n (λ same. two_ways (comes_up (suc steps) t n) (ap (comes_up (suc steps) t) (sym same) ∙ up) not_up) in
    rw passed (elim (d == 1) as (λ c. IsTrue (c || if_held (holder_of t d) (λ up. comes_up steps t up)) → (not c && if_held (holder_of t d) (λ up. is_beneath (suc steps) t up n)) ≡ false) [
      | true ↦ λ h. refl
      | false ↦ λ h. held_none (holder_of t d) (λ up. comes_up steps t up) (λ up. is_beneath (suc steps) t up n) (λ k is here. never_met steps t k n here (shorter steps t n not_up)) h
    ] up)

-- the step with which one comes up
record LastStep (t : Tree) (d : ℕ) : Type 0 where
  before : ℕ
  not_yet : comes_up before t d ≡ false
  then_up : IsTrue (comes_up (suc before) t d)

last_step : (steps : ℕ) (t : Tree) (d : ℕ) → IsTrue (comes_up steps t d) → d ≢ 1 → LastStep t d
last_step zero t d h other = absurd (other (decided d 1 h))
last_step (suc steps) t d h other =
    elim (comes_up steps t d) as (λ c. comes_up steps t d ≡ c → LastStep t d) [
      | true ↦ λ is. last_step steps t d is other
      | false ↦ λ is. record { before = steps; not_yet = is; then_up = h }
    ] refl

-- a directory isn't met above itself
pub not_above_itself : (t : Tree) (n up : ℕ) → IsWellFormed t → IsTrue (is_live_directory t n) → n ≢ 1 → holder_of t n ≡ Some up → (steps : ℕ) × (is_beneath steps t up n ≡ false)
not_above_itself t n up well live other held =
    let lives = well.inodes n Directory (is_directory_in (inode_of t n) live) in
    let last = last_step lives.reached.1 t n lives.reached.2 other in
    let on : IsTrue (if_held (holder_of t n) (λ up. comes_up last.before t up)) = subst (λ c. IsTrue (c || if_held (holder_of t n) (λ up. comes_up last.before t up))) (other_test n 1 other) last.then_up in
    let here : IsTrue (comes_up last.before t up) = subst (λ o. IsTrue (if_held o (λ up. comes_up last.before t up))) held on in
    (suc last.before, never_met last.before t up n here last.not_yet)

-- only directories are met
among_directories : (steps : ℕ) (t : Tree) (d n : ℕ) → IsWellFormed t → IsTrue (is_live_directory t d) → IsTrue (comes_up steps t d) → is_live_directory t n ≡ false → is_beneath (suc steps) t d n ≡ false
among_directories zero t d n well live up dead =
    let passed = other_test d n (λ same. two_ways (is_live_directory t n) (ap (is_live_directory t) (sym same) ∙ live) dead) in
    rw (passed, up) refl
among_directories (suc steps) t d n well live up dead =
    let passed = other_test d n (λ same. two_ways (is_live_directory t n) (ap (is_live_directory t) (sym same) ∙ live) dead) in
    rw passed (elim (d == 1) as (λ c. IsTrue (c || if_held (holder_of t d) (λ up. comes_up steps t up)) → (not c && if_held (holder_of t d) (λ up. is_beneath (suc steps) t up n)) ≡ false) [
      | true ↦ λ h. refl
      | false ↦ λ h. held_none (holder_of t d) (λ up. comes_up steps t up) (λ up. is_beneath (suc steps) t up n) (λ k is here. among_directories steps t k n well (holder-live t well d k is) here dead) h
    ] up)

-- so a way up meets an inode only if that is a directory which may be met
pub way_past : (t : Tree) (d n : ℕ) → IsWellFormed t → IsTrue (is_live_directory t d) → (IsTrue (is_live_directory t n) → (steps : ℕ) × (is_beneath steps t d n ≡ false)) → (steps : ℕ) × (is_beneath steps t d n ≡ false)
way_past t d n well live so = by_kind (is_live_directory t n) refl
  where
    by_kind : (b : Bool) → is_live_directory t n ≡ b → (steps : ℕ) × (is_beneath steps t d n ≡ false)
    by_kind true is = so is
    by_kind false is =
        let lives = well.inodes d Directory (is_directory_in (inode_of t d) live) in
        (suc lives.reached.1, among_directories lives.reached.1 t d n well live lives.reached.2 is)

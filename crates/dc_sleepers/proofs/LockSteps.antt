-- The steps of the lock that draw and serve no ticket, and free and wake nobody, keep it sound.
use Rattle.std.proofs.Common.{◌≡◌, ℕ, ◌+◌, ◌-◌, ◌<◌, ◌≤◌, ◌==◌, ◌&&◌, not, Bool, true, false, cond, length, set, le_refl, sym, ap, ◌∙◌, subst, arith, refl}
use Rattle.dc_sleepers.specs.declared.lock.Place.{Place}
use Rattle.dc_sleepers.specs.declared.lock.Place.TheVariants.{Out, Trying, Drawing, Counted, Choosing, Parking, Yielding, Asleep, Kept, Awake, Got, Serving, Holding, Freed, Looking, Looked, WakingOne, WakingAll}
use Rattle.dc_sleepers.specs.declared.lock.Thread.{Thread}
use Rattle.dc_sleepers.specs.Locks.{State, idle, thread_of, with_thread}
use Rattle.dc_sleepers.specs.LockLaw.{how_many, number, wakes_all}
use Rattle.dc_sleepers.specs.LockSound.{is_counted, is_late, is_late_at, may_have_ticket, is_drawing, is_leaving, has_limit, yields, IsFine, IsFair, IsSound}
use Rattle.dc_sleepers.proofs.Counts.{one}
use Rattle.dc_sleepers.proofs.Standing.{one_below, counts}
use Rattle.dc_sleepers.proofs.GateNext.{never}
use Rattle.dc_sleepers.proofs.LockFair.{Moves, moves, bland, busy, fairly, calm}
use Rattle.dc_sleepers.proofs.LockNext.{was_drawn, seen_by_next}

pub one_and_not : (a b : Bool) → b ≡ true → one (a && not b) ≡ 0
one_and_not true true e = refl
one_and_not false b e = refl
one_and_not true false e = never e

and_not_below : (a b : Bool) → one (a && not b) ≤ one a
and_not_below true b = one_below (not b)
and_not_below false b = omega arith

module _ (s : State) (t : ℕ) (inside : t < length s.threads) (S : IsSound s) (l h : Bool) (k m n : ℕ) where
  abbrev at : Place → Thread
  at p = record { place = p; has_slept = l; has_ticket = h; ticket = k; limit = m; seen = n }

  abbrev go : Place → State
  go p = with_thread s t (at p)

  abbrev fine : Thread → Type 0
  fine x = IsFine s.served s.drawn x

  abbrev mine : (p : Place) → thread_of s t ≡ at p → fine (at p)
  mine p e = subst fine e (S.fair.each t)

  -- at a place at which nothing is asked of it
  to_bland : (p q : Place) → thread_of s t ≡ at p → is_drawing q ≡ false → is_leaving q ≡ false → has_limit q ≡ false → yields q ≡ false → (h ≡ true → may_have_ticket q ≡ true) → fine (at q)
  to_bland p q e a b c d holds = bland s.served s.drawn (at q) a b c d (mine p e).slept holds

  abbrev fresh : Thread
  fresh = record { place = Trying; has_slept = false; has_ticket = h; ticket = k; limit = m; seen = n }

  pub comes : thread_of s t ≡ at Out → IsSound (with_thread s t fresh)
  comes e = calm s t (at Out) fresh s.waiting inside e S refl refl (omega arith) refl (omega arith) (omega arith) (omega arith) (omega arith) (omega arith) (omega arith)
      (bland s.served s.drawn fresh refl refl refl refl (λ has. never ((mine Out e).holds has)) (λ has. never ((mine Out e).holds has)))

  pub stays_out : thread_of s t ≡ at Out → IsSound (go Out)
  stays_out e = calm s t (at Out) (at Out) s.waiting inside e S refl refl (omega arith) refl (omega arith) (omega arith) (omega arith) (omega arith) (omega arith) (omega arith) (mine Out e)

  pub tries_on : thread_of s t ≡ at Trying → IsSound (go Trying)
  tries_on e = calm s t (at Trying) (at Trying) s.waiting inside e S refl refl (omega arith) refl (omega arith) (omega arith) (omega arith) (omega arith) (omega arith) (omega arith) (mine Trying e)

  abbrev taken : Place → State
  taken p = record (go p) { is_held = true }

  free : s.is_held ≡ false → one s.is_held ≡ 0
  free f = ap one f

  pub gets_at_once : s.is_held ≡ false → thread_of s t ≡ at Out → IsSound (taken Holding)
  gets_at_once f e = busy (taken Holding) (fairly s t (at Out) (at Holding) true s.waiting inside e S.fair refl refl (omega arith) (omega (arith, free f)) (omega arith) (omega arith)
      (to_bland Out Holding e refl refl refl refl (λ has. never ((mine Out e).holds has)))) refl

  pub gets : h ≡ false → s.is_held ≡ false → thread_of s t ≡ at Trying → IsSound (taken Holding)
  gets none f e = busy (taken Holding) (fairly s t (at Trying) (at Holding) true s.waiting inside e S.fair refl refl (omega arith) (omega (arith, free f)) (omega arith) (omega arith)
      (to_bland Trying Holding e refl refl refl refl (λ has. never (sym none ∙ has)))) refl

  pub gets_late : h ≡ true → s.is_held ≡ false → thread_of s t ≡ at Trying → IsSound (taken Got)
  gets_late late f e = busy (taken Got) (fairly s t (at Trying) (at Got) true s.waiting inside e S.fair refl refl (omega arith) (omega (arith, free f)) (omega arith) (omega arith)
      record { slept = (mine Trying e).slept; holds = λ _. refl; draws = λ a. never a; leaves = λ _. late; own = λ a. never a; known = λ a. never a; kept = λ a. never a }) refl

  pub counts_late : l ≡ true → h ≡ false → thread_of s t ≡ at Trying → IsSound (record (go Drawing) { waiting = s.waiting + 1 })
  counts_late slept none e = let zero : one h ≡ 0 = ap one none in calm s t (at Trying) (at Drawing) (s.waiting + 1) inside e S refl refl (omega (arith, zero)) refl (omega arith) (omega arith) (omega arith) (omega arith) (omega arith) (omega arith)
      record { slept = λ _. slept; holds = λ has. never (sym none ∙ has); draws = λ _. slept; leaves = λ a. never a; own = λ a. never a; known = λ a. never a; kept = λ a. never a }

  pub counts_in : thread_of s t ≡ at Trying → IsSound (record (go Counted) { waiting = s.waiting + 1 })
  counts_in e = calm s t (at Trying) (at Counted) (s.waiting + 1) inside e S refl refl (omega arith) refl (omega arith) (omega arith) (omega arith) (omega arith) (omega arith) (omega arith)
      (to_bland Trying Counted e refl refl refl refl (λ _. refl))

  abbrev read : ℕ → Thread
  read d = record { place = Choosing; has_slept = l; has_ticket = h; ticket = k; limit = d; seen = n }

  pub reads_drawn : (d : ℕ) → d ≤ s.drawn → (h ≡ true → d ≡ k) → thread_of s t ≡ at Counted → IsSound (with_thread s t (read d))
  reads_drawn d known own e = calm s t (at Counted) (read d) s.waiting inside e S refl refl (omega arith) refl (omega arith) (omega arith) (omega arith) (omega arith) (omega arith) (omega arith)
      record { slept = (mine Counted e).slept; holds = λ _. refl; draws = λ a. never a; leaves = λ a. never a; own = λ _ has. own has; known = λ _. known; kept = λ a. never a }

  pub drawn_before : thread_of s t ≡ at Counted → h ≡ true → k < s.drawn
  drawn_before e has = subst (λ (x : Thread). x.ticket < s.drawn) e (was_drawn s S.fair t (ap (λ (x : Thread). x.has_ticket) e ∙ has))

  abbrev chosen : Place → Thread
  chosen p = record { place = p; has_slept = l; has_ticket = h; ticket = k; limit = m; seen = s.served }

  pub parks_next : thread_of s t ≡ at Choosing → IsSound (with_thread s t (chosen Parking))
  parks_next e = calm s t (at Choosing) (chosen Parking) s.waiting inside e S refl refl (omega arith) refl (omega arith) (omega arith) (omega arith) (omega arith) (omega arith) (omega arith)
      (bland s.served s.drawn (chosen Parking) refl refl refl refl (mine Choosing e).slept (λ _. refl))

  -- a late thread goes before it, and sees to the sleepers
  pub yields_next : s.served < m → thread_of s t ≡ at Choosing → IsSound (with_thread s t (chosen Yielding))
  yields_next less e = let F = mine Choosing e in
      let w : Moves s.served s.threads (set s.threads t (chosen Yielding)) (at Choosing) (chosen Yielding) = moves s.served s.threads t (at Choosing) (chosen Yielding) inside e in
      let fair : IsFair (with_thread s t (chosen Yielding)) = fairly s t (at Choosing) (chosen Yielding) s.is_held s.waiting inside e S.fair refl refl (omega arith) (omega arith) (omega arith) (omega arith)
      record { slept = F.slept; holds = λ _. refl; draws = λ a. never a; leaves = λ a. never a; own = λ _ has. F.own refl has; known = λ _. F.known refl; kept = λ _. (le_refl s.served, less) } in
      let all : 0 < how_many (with_thread s t (chosen Yielding)) Rattle.dc_sleepers.specs.LockSound.is_late_asleep → 0 < cond s.is_held 1 0 + how_many (with_thread s t (chosen Yielding)) (wakes_all s.served) = λ some. omega (arith, S.all, w.late_asleep, w.all, some) in record {
        fair = fair;
        seen_to = λ _. seen_by_next (with_thread s t (chosen Yielding)) fair all (omega (arith, less, F.known refl));
        all = all;
      }

  pub insists : thread_of s t ≡ at Choosing → IsSound (go Parking)
  insists e = calm s t (at Choosing) (at Parking) s.waiting inside e S refl refl (omega arith) refl (omega arith) (omega arith) (omega arith) (omega arith) (omega arith) (omega arith)
      (to_bland Choosing Parking e refl refl refl refl (λ _. refl))

  pub falls_asleep : s.is_held ≡ true → thread_of s t ≡ at Parking → IsSound (go Asleep)
  falls_asleep held e = busy (go Asleep) (fairly s t (at Parking) (at Asleep) s.is_held s.waiting inside e S.fair refl refl (omega arith) (omega arith) (omega arith) (omega arith)
      (to_bland Parking Asleep e refl refl refl refl (λ _. refl))) held

  pub finds_it_free : thread_of s t ≡ at Parking → IsSound (go Awake)
  finds_it_free e = calm s t (at Parking) (at Awake) s.waiting inside e S refl refl (omega arith) refl (omega arith) (omega arith) (omega arith) (omega arith) (omega (arith, one_below l)) (omega arith)
      (to_bland Parking Awake e refl refl refl refl (λ _. refl))

  pub is_kept_off : n ≡ s.served → (n == s.served) ≡ true → thread_of s t ≡ at Yielding → IsSound (go Kept)
  is_kept_off as_many same e = let F = mine Yielding e in let none : one (l && not (n == s.served)) ≡ 0 = one_and_not l (n == s.served) same in let still : one (not (n == s.served)) ≡ 0 = ap (λ b. one (not b)) same in
      calm s t (at Yielding) (at Kept) s.waiting inside e S refl refl (omega arith) refl (omega (arith, still)) (omega arith) (omega arith) (omega arith) (omega (arith, none)) (omega arith)
      record { slept = F.slept; holds = λ _. refl; draws = λ a. never a; leaves = λ a. never a; own = λ _ has. F.own refl has; known = λ _. F.known refl; kept = λ _. F.kept refl }

  pub goes_on : thread_of s t ≡ at Yielding → IsSound (go Awake)
  goes_on e = calm s t (at Yielding) (at Awake) s.waiting inside e S refl refl (omega arith) refl (omega arith) (omega arith) (omega arith) (omega arith) (omega (arith, one_below (l && not (n == s.served)))) (omega arith)
      (to_bland Yielding Awake e refl refl refl refl (λ _. refl))

  pub wakes_up : thread_of s t ≡ at Asleep → IsSound (go Awake)
  wakes_up e = calm s t (at Asleep) (at Awake) s.waiting inside e S refl refl (omega arith) refl (omega arith) (omega arith) (omega arith) (omega arith) (omega arith) (omega arith)
      (to_bland Asleep Awake e refl refl refl refl (λ _. refl))

  pub wakes_kept_up : thread_of s t ≡ at Kept → IsSound (go Awake)
  wakes_kept_up e = calm s t (at Kept) (at Awake) s.waiting inside e S refl refl (omega arith) refl (omega arith) (omega arith) (omega arith) (omega arith) (omega arith) (omega arith)
      (to_bland Kept Awake e refl refl refl refl (λ _. refl))

  abbrev slept_once : Thread
  slept_once = record { place = Trying; has_slept = true; has_ticket = h; ticket = k; limit = m; seen = n }

  pub counts_out : thread_of s t ≡ at Awake → IsSound (record (with_thread s t slept_once) { waiting = s.waiting - 1 })
  counts_out e = let some : 0 < number s is_counted = counts (λ (y : Thread). is_counted y.place) s.threads t idle inside (ap (λ (y : Thread). is_counted y.place) e) in
      calm s t (at Awake) slept_once (s.waiting - 1) inside e S refl refl (omega (arith, S.fair.counted, some)) refl (omega arith) (omega arith) (omega arith) (omega arith) (omega arith) (omega arith)
      (bland s.served s.drawn slept_once refl refl refl refl (λ _. refl) (λ _. refl))

  pub counts_late_out : thread_of s t ≡ at Got → IsSound (record (go Serving) { waiting = s.waiting - 1 })
  counts_late_out e = let F = mine Got e in let has : h ≡ true = F.leaves refl in let just : one h ≡ 1 = ap one has in
      let some : 0 < how_many s is_late = counts is_late s.threads t idle inside (ap is_late e ∙ has) in
      calm s t (at Got) (at Serving) (s.waiting - 1) inside e S refl refl (omega (arith, S.fair.counted, some, just)) refl (omega arith) (omega arith) (omega arith) (omega arith) (omega arith) (omega arith)
      record { slept = F.slept; holds = λ _. refl; draws = λ a. never a; leaves = λ _. has; own = λ a. never a; known = λ a. never a; kept = λ a. never a }

  pub finds_some : thread_of s t ≡ at Freed → IsSound (go Looking)
  finds_some e = calm s t (at Freed) (at Looking) s.waiting inside e S refl refl (omega arith) refl (omega arith) (omega arith) (omega arith) (omega arith) (omega arith) (omega arith)
      (to_bland Freed Looking e refl refl refl refl (λ has. never ((mine Freed e).holds has)))

  pub finds_no_ticket : (m == s.served) ≡ true → thread_of s t ≡ at Looked → IsSound (go WakingOne)
  finds_no_ticket same e = let none : one (not (m == s.served)) ≡ 0 = ap (λ b. one (not b)) same in calm s t (at Looked) (at WakingOne) s.waiting inside e S refl refl (omega arith) refl (omega arith) (omega arith) (omega arith) (omega arith) (omega arith) (omega (arith, none))
      (to_bland Looked WakingOne e refl refl refl refl (λ has. never ((mine Looked e).holds has)))

  pub finds_a_ticket : thread_of s t ≡ at Looked → IsSound (go WakingAll)
  finds_a_ticket e = calm s t (at Looked) (at WakingAll) s.waiting inside e S refl refl (omega arith) refl (omega arith) (omega arith) (omega arith) (omega arith) (omega arith) (omega (arith, one_below (not (m == s.served))))
      (to_bland Looked WakingAll e refl refl refl refl (λ has. never ((mine Looked e).holds has)))

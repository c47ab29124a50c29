-- What a thread's going to another place leaves of the lock.
use Rattle.std.proofs.Common.{◌≡◌, ℕ, ◌+◌, ◌<◌, ◌≤◌, ◌&&◌, leb, Bool, true, false, List, length, get_or, set, sym, ap, ◌∙◌, arith, inl, inr}
use Rattle.std.specs.List.{count_by}
use Rattle.dc_sleepers.specs.declared.lock.Thread.{Thread}
use Rattle.dc_sleepers.specs.Locks.{State, idle, thread_of, with_thread, is_asleep}
use Rattle.dc_sleepers.specs.LockLaw.{number, is_holding, owes_a_wake, wakes_all, owes_a_try}
use Rattle.dc_sleepers.specs.LockSound.{is_counted, is_late, is_passing, is_drawing, is_leaving, has_limit, yields, may_have_ticket, is_from, is_late_asleep, is_behind, IsFine, IsFair, IsSound}
use Rattle.dc_sleepers.proofs.Counts.{one, count_moved}
use Rattle.dc_sleepers.proofs.Standing.{either, each_set}
use Rattle.dc_sleepers.proofs.GateNext.{never}

-- how the numbers go from one list of threads to another, if one that was x is y
pub record Moves (served : ℕ) (xs ys : List Thread) (x y : Thread) : Type 0 where
  pub counted : count_by (λ (z : Thread). is_counted z.place) ys + one (is_counted x.place) ≡ count_by (λ (z : Thread). is_counted z.place) xs + one (is_counted y.place)
  pub late : count_by is_late ys + one (is_late x) ≡ count_by is_late xs + one (is_late y)
  pub holding : count_by (λ (z : Thread). is_holding z.place) ys + one (is_holding x.place) ≡ count_by (λ (z : Thread). is_holding z.place) xs + one (is_holding y.place)
  pub passing : count_by (λ (z : Thread). is_passing z.place) ys + one (is_passing x.place) ≡ count_by (λ (z : Thread). is_passing z.place) xs + one (is_passing y.place)
  pub out : count_by (λ (z : Thread). z.has_ticket) ys + one x.has_ticket ≡ count_by (λ (z : Thread). z.has_ticket) xs + one y.has_ticket
  pub from : (n : ℕ) → count_by (is_from n) ys + one (is_from n x) ≡ count_by (is_from n) xs + one (is_from n y)
  pub asleep : count_by (λ (z : Thread). is_asleep z.place) ys + one (is_asleep x.place) ≡ count_by (λ (z : Thread). is_asleep z.place) xs + one (is_asleep y.place)
  pub late_asleep : count_by is_late_asleep ys + one (is_late_asleep x) ≡ count_by is_late_asleep xs + one (is_late_asleep y)
  pub wakes : count_by (λ (z : Thread). owes_a_wake z.place) ys + one (owes_a_wake x.place) ≡ count_by (λ (z : Thread). owes_a_wake z.place) xs + one (owes_a_wake y.place)
  pub all : count_by (wakes_all served) ys + one (wakes_all served x) ≡ count_by (wakes_all served) xs + one (wakes_all served y)
  pub tries : count_by (owes_a_try served) ys + one (owes_a_try served x) ≡ count_by (owes_a_try served) xs + one (owes_a_try served y)
  pub behind : count_by (is_behind served) ys + one (is_behind served x) ≡ count_by (is_behind served) xs + one (is_behind served y)

pub moves : (served : ℕ) (xs : List Thread) (t : ℕ) (x y : Thread) → t < length xs → get_or xs t idle ≡ x → Moves served xs (set xs t y) x y
moves served xs t x y inside e = record {
  counted = count_moved (λ (z : Thread). is_counted z.place) xs t idle x y inside e;
  late = count_moved is_late xs t idle x y inside e;
  holding = count_moved (λ (z : Thread). is_holding z.place) xs t idle x y inside e;
  passing = count_moved (λ (z : Thread). is_passing z.place) xs t idle x y inside e;
  out = count_moved (λ (z : Thread). z.has_ticket) xs t idle x y inside e;
  from = λ n. count_moved (is_from n) xs t idle x y inside e;
  asleep = count_moved (λ (z : Thread). is_asleep z.place) xs t idle x y inside e;
  late_asleep = count_moved is_late_asleep xs t idle x y inside e;
  wakes = count_moved (λ (z : Thread). owes_a_wake z.place) xs t idle x y inside e;
  all = count_moved (wakes_all served) xs t idle x y inside e;
  tries = count_moved (owes_a_try served) xs t idle x y inside e;
  behind = count_moved (is_behind served) xs t idle x y inside e;
}

-- a thread at a place at which nothing is asked of it, but of its ticket
pub bland : (served drawn : ℕ) (x : Thread) → is_drawing x.place ≡ false → is_leaving x.place ≡ false → has_limit x.place ≡ false → yields x.place ≡ false
    → (x.has_ticket ≡ true → x.has_slept ≡ true) → (x.has_ticket ≡ true → may_have_ticket x.place ≡ true) → IsFine served drawn x
bland served drawn x a b c d slept holds = record {
  slept = slept;
  holds = holds;
  draws = λ h. never (sym a ∙ h);
  leaves = λ h. never (sym b ∙ h);
  own = λ h. never (sym c ∙ h);
  known = λ h. never (sym c ∙ h);
  kept = λ h. never (sym d ∙ h);
}

-- a held lock is sound
pub busy : (s : State) → IsFair s → s.is_held ≡ true → IsSound s
busy s F held = let just : one s.is_held ≡ 1 = ap one held in record {
  fair = F;
  seen_to = λ _. omega (arith, just);
  all = λ _. omega (arith, just);
}

pub is_busy : (s : State) → IsFair s → 0 < number s is_holding → s.is_held ≡ true
is_busy s F some = elim (either s.is_held) [ inl held ↦ held | inr free ↦ let none : one s.is_held ≡ 0 = ap one free in absurd (omega (arith, F.holder, none, some)) ]

-- a thread goes to another place, and no ticket is drawn or served
pub fairly : (s : State) (t : ℕ) (x y : Thread) (held : Bool) (waiting : ℕ) → t < length s.threads → thread_of s t ≡ x → IsFair s → y.has_ticket ≡ x.has_ticket → y.ticket ≡ x.ticket
    → waiting + (one (is_counted x.place) + one (is_late x)) ≡ s.waiting + (one (is_counted y.place) + one (is_late y))
    → one held + one (is_holding x.place) ≡ one s.is_held + one (is_holding y.place)
    → one (is_behind s.served y) ≤ one (is_behind s.served x) → one (is_passing x.place) ≤ one (is_passing y.place)
    → IsFine s.served s.drawn y → IsFair (record (with_thread s t y) { is_held = held; waiting = waiting })
fairly s t x y held waiting inside e F has ticket counted holding behind passing mine =
    let m : Moves s.served s.threads (set s.threads t y) x y = moves s.served s.threads t x y inside e in
    let same : one y.has_ticket ≡ one x.has_ticket = ap one has in
    let alike : (n : ℕ) → one (is_from n y) ≡ one (is_from n x) = λ n i. one (has i && leb n (ticket i)) in record {
      counted = omega (arith, F.counted, m.counted, m.late, counted);
      holder = omega (arith, F.holder, m.holding, holding);
      out = omega (arith, F.out, m.out, same);
      few = λ n. omega (arith, F.few n, m.from n, alike n);
      behind = λ some. omega (arith, F.behind, m.behind, m.passing, behind, passing, some);
      each = each_set (IsFine s.served s.drawn) s.threads t y idle inside (λ k _. F.each k) mine;
    }

-- and those that see to the sleepers become no fewer
pub calm : (s : State) (t : ℕ) (x y : Thread) (waiting : ℕ) → t < length s.threads → thread_of s t ≡ x → IsSound s → y.has_ticket ≡ x.has_ticket → y.ticket ≡ x.ticket
    → waiting + (one (is_counted x.place) + one (is_late x)) ≡ s.waiting + (one (is_counted y.place) + one (is_late y))
    → one (is_holding x.place) ≡ one (is_holding y.place)
    → one (is_behind s.served y) ≤ one (is_behind s.served x) → one (is_passing x.place) ≤ one (is_passing y.place)
    → one (is_asleep y.place) ≤ one (is_asleep x.place) → one (is_late_asleep y) ≤ one (is_late_asleep x)
    → one (owes_a_wake x.place) + one (owes_a_try s.served x) ≤ one (owes_a_wake y.place) + one (owes_a_try s.served y)
    → one (wakes_all s.served x) ≤ one (wakes_all s.served y)
    → IsFine s.served s.drawn y → IsSound (record (with_thread s t y) { waiting = waiting })
calm s t x y waiting inside e S has ticket counted holding behind passing asleep late sees all mine =
    let m : Moves s.served s.threads (set s.threads t y) x y = moves s.served s.threads t x y inside e in record {
      fair = fairly s t x y s.is_held waiting inside e S.fair has ticket counted (omega (arith, holding)) behind passing mine;
      seen_to = λ some. omega (arith, S.seen_to, m.asleep, m.wakes, m.tries, asleep, sees, some);
      all = λ some. omega (arith, S.all, m.late_asleep, m.all, late, all, some);
    }

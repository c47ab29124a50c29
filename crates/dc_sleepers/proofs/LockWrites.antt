-- Drawing and serving a ticket, freeing the lock and looking for sleepers keep it sound.
use Rattle.std.proofs.Common.{◌≡◌, ℕ, ◌+◌, ◌<◌, ◌≤◌, inl, inr, ◌==◌, ◌&&◌, not, leb, Bool, true, false, length, set, ap, subst, arith, refl}
use Rattle.std.proofs.lemmas.Bool.{cases_lt, eqb-true, lt-leb}
use Rattle.dc_sleepers.specs.declared.lock.Place.{Place}
use Rattle.dc_sleepers.specs.declared.lock.Place.TheVariants.{Out, Trying, Drawing, Asleep, Serving, Served, Holding, Freed, Looking, Looked}
use Rattle.dc_sleepers.specs.declared.lock.Thread.{Thread}
use Rattle.dc_sleepers.specs.Locks.{State, idle, thread_of, with_thread, is_asleep}
use Rattle.dc_sleepers.specs.LockLaw.{how_many, number, is_holding}
use Rattle.dc_sleepers.specs.LockSound.{is_counted, is_late, is_from, is_late_asleep, IsFine, IsFair, IsSound}
use Rattle.dc_sleepers.proofs.Counts.{one, count_below}
use Rattle.dc_sleepers.proofs.Standing.{either, one_below, counts, each_set}
use Rattle.dc_sleepers.proofs.GateNext.{never}
use Rattle.dc_sleepers.proofs.LockFair.{Moves, moves, bland, busy, is_busy, fairly}

asleep_is_counted : (p : Place) → one (is_asleep p) ≤ one (is_counted p)
asleep_is_counted Asleep = omega arith
asleep_is_counted _ = omega arith

left_below : (a b : Bool) → one (a && b) ≤ one a
left_below true b = one_below b
left_below false b = omega arith

right_below : (a b : Bool) → one (a && b) ≤ one b
right_below true b = omega arith
right_below false b = omega arith

pub late_asleep_sleeps : (s : State) → how_many s is_late_asleep ≤ number s is_asleep
late_asleep_sleeps s = count_below is_late_asleep (λ (y : Thread). is_asleep y.place) (λ y. left_below (is_asleep y.place) y.has_ticket) s.threads

late_asleep_is_out : (s : State) → how_many s is_late_asleep ≤ how_many s (λ (y : Thread). y.has_ticket)
late_asleep_is_out s = count_below is_late_asleep (λ (y : Thread). y.has_ticket) (λ y. right_below (is_asleep y.place) y.has_ticket) s.threads

module _ (s : State) (t : ℕ) (inside : t < length s.threads) (S : IsSound s) (l h : Bool) (k m n : ℕ) where
  abbrev at : Place → Thread
  at p = record { place = p; has_slept = l; has_ticket = h; ticket = k; limit = m; seen = n }

  abbrev go : Place → State
  go p = with_thread s t (at p)

  abbrev mine : (p : Place) → thread_of s t ≡ at p → IsFine s.served s.drawn (at p)
  mine p e = subst (IsFine s.served s.drawn) e (S.fair.each t)

  abbrev late : Thread
  late = record { place = Trying; has_slept = l; has_ticket = true; ticket = s.drawn; limit = m; seen = n }

  abbrev drawn_once : State
  drawn_once = record (with_thread s t late) { drawn = s.drawn + 1 }

  pub draws : thread_of s t ≡ at Drawing → IsSound drawn_once
  draws e = let F = mine Drawing e in
      let w : Moves s.served s.threads (set s.threads t late) (at Drawing) late = moves s.served s.threads t (at Drawing) late inside e in
      let none : one h ≡ 0 = elim (either h) [ inl has ↦ never (F.holds has) | inr hasn't ↦ ap one hasn't ] in record {
        fair = record {
          counted = omega (arith, S.fair.counted, w.counted, w.late);
          holder = omega (arith, S.fair.holder, w.holding);
          out = omega (arith, S.fair.out, w.out, none);
          few = λ i. elim (cases_lt s.drawn i) [
            | inl past ↦ let apart : one (leb i s.drawn) ≡ 0 = ap one (lt-leb i s.drawn past) in omega (arith, S.fair.few i, w.from i, apart, past)
            | inr near ↦ omega (arith, S.fair.few i, w.from i, one_below (leb i s.drawn), near)
          ];
          behind = λ some. omega (arith, S.fair.behind, w.behind, w.passing, some);
          each = each_set (IsFine s.served (s.drawn + 1)) s.threads t late idle inside
              (λ i _. let G = S.fair.each i in record {
                slept = G.slept;
                holds = G.holds;
                draws = G.draws;
                leaves = G.leaves;
                own = G.own;
                known = λ a. let few : (thread_of s i).limit ≤ s.drawn = G.known a in omega arith;
                kept = G.kept;
              })
              (bland s.served (s.drawn + 1) late refl refl refl refl (λ _. F.draws refl) (λ _. refl));
        };
        seen_to = λ some. omega (arith, S.seen_to, w.asleep, w.wakes, w.tries, some);
        all = λ some. omega (arith, S.all, w.late_asleep, w.all, some);
      }

  abbrev gone : Thread
  gone = record { place = Served; has_slept = l; has_ticket = false; ticket = k; limit = m; seen = n }

  abbrev one_served : State
  one_served = record (with_thread s t gone) { served = s.served + 1 }

  pub serves : thread_of s t ≡ at Serving → IsSound one_served
  serves e = let F = mine Serving e in
      let w : Moves s.served s.threads (set s.threads t gone) (at Serving) gone = moves s.served s.threads t (at Serving) gone inside e in
      let just : one h ≡ 1 = ap one (F.leaves refl) in busy one_served record {
        counted = omega (arith, S.fair.counted, w.counted, w.late);
        holder = omega (arith, S.fair.holder, w.holding);
        out = omega (arith, S.fair.out, w.out, just);
        few = λ i. omega (arith, S.fair.few i, w.from i);
        behind = λ _. omega (arith, w.passing);
        each = each_set (IsFine (s.served + 1) s.drawn) s.threads t gone idle inside
            (λ i _. let G = S.fair.each i in record {
              slept = G.slept;
              holds = G.holds;
              draws = G.draws;
              leaves = G.leaves;
              own = G.own;
              known = G.known;
              kept = λ a. let few : (thread_of s i).seen ≤ s.served = (G.kept a).0 in (omega arith, (G.kept a).1);
            })
            (bland (s.served + 1) s.drawn gone refl refl refl refl (λ a. never a) (λ a. never a));
      } (is_busy s S.fair (counts (λ (y : Thread). is_holding y.place) s.threads t idle inside (ap (λ (y : Thread). is_holding y.place) e)))

  pub gives : thread_of s t ≡ at Holding → IsSound (record (go Freed) { is_held = false })
  gives e = let F = mine Holding e in
      let w : Moves s.served s.threads (set s.threads t (at Freed)) (at Holding) (at Freed) = moves s.served s.threads t (at Holding) (at Freed) inside e in
      let just : one s.is_held ≡ 1 = ap one (is_busy s S.fair (counts (λ (y : Thread). is_holding y.place) s.threads t idle inside (ap (λ (y : Thread). is_holding y.place) e))) in record {
        fair = fairly s t (at Holding) (at Freed) false s.waiting inside e S.fair refl refl (omega arith) (omega (arith, just)) (omega arith) (omega arith) (bland s.served s.drawn (at Freed) refl refl refl refl F.slept (λ has. never (F.holds has)));
        seen_to = λ _. omega (arith, w.wakes);
        all = λ _. omega (arith, w.all);
      }

  -- a thread goes out, and nobody sleeps until the lock is free
  pub leaves_none : (p : Place) → thread_of s t ≡ at p → one (is_counted p) ≡ 0 → is_late (at p) ≡ h → is_holding p ≡ false → one (Rattle.dc_sleepers.specs.LockSound.is_passing p) ≡ 0 → (h ≡ true → false ≡ true) → number (go Out) is_asleep ≡ 0 → IsSound (go Out)
  leaves_none p e counted as_late holding passing hasn't none =
      let holds : one (is_holding p) ≡ 0 = ap one holding in let still : one (is_late (at p)) ≡ one h = ap one as_late in record {
        fair = fairly s t (at p) (at Out) s.is_held s.waiting inside e S.fair refl refl (omega (arith, counted, still)) (omega (arith, holds)) (omega arith) (omega (arith, passing)) (bland s.served s.drawn (at Out) refl refl refl refl (mine p e).slept hasn't);
        seen_to = λ some. absurd (omega (arith, some, none));
        all = λ some. absurd (omega (arith, some, none, late_asleep_sleeps (go Out)));
      }

  pub finds_nobody : s.waiting ≡ 0 → thread_of s t ≡ at Freed → IsSound (go Out)
  finds_nobody zero e =
      let w : Moves s.served s.threads (set s.threads t (at Out)) (at Freed) (at Out) = moves s.served s.threads t (at Freed) (at Out) inside e in
      let few : number s is_asleep ≤ number s is_counted = count_below (λ (y : Thread). is_asleep y.place) (λ (y : Thread). is_counted y.place) (λ y. asleep_is_counted y.place) s.threads in
      leaves_none Freed e refl refl refl refl (mine Freed e).holds (omega (arith, S.fair.counted, w.asleep, few, zero))

  abbrev read : Thread
  read = record { place = Looked; has_slept = l; has_ticket = h; ticket = k; limit = s.drawn; seen = n }

  pub looks : thread_of s t ≡ at Looking → IsSound (with_thread s t read)
  looks e = let F = mine Looking e in
      let w : Moves s.served s.threads (set s.threads t read) (at Looking) read = moves s.served s.threads t (at Looking) read inside e in record {
        fair = fairly s t (at Looking) read s.is_held s.waiting inside e S.fair refl refl (omega arith) (omega arith) (omega arith) (omega arith) (bland s.served s.drawn read refl refl refl refl F.slept (λ has. never (F.holds has)));
        seen_to = λ some. omega (arith, S.seen_to, w.asleep, w.wakes, w.tries, some);
        all = λ some. elim (either (s.drawn == s.served)) [
          | inl same ↦ absurd (omega (arith, some, w.late_asleep, late_asleep_is_out s, S.fair.out, eqb-true s.drawn s.served same))
          | inr other ↦ let here : one (not (s.drawn == s.served)) ≡ 1 = ap (λ b. one (not b)) other in omega (arith, w.all, here)
        ];
      }

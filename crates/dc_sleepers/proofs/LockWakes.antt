-- Waking keeps the lock sound.
use Rattle.std.proofs.Common.{◌≡◌, ◌≢◌, ℕ, ◌<◌, ◌==◌, ◌&&◌, not, if◌then◌else◌, Bool, true, false, List, length, map, get_or, set, get_or-set_other, sym, ap, ◌∙◌, subst, arith, refl}
use Rattle.std.specs.List.{count_by}
use Rattle.std.proofs.Math.ListN.{get_or-map}
use Rattle.std.proofs.lemmas.List.{length-map, map-set}
use Rattle.dc_sleepers.specs.declared.lock.Place.{Place}
use Rattle.dc_sleepers.specs.declared.lock.Place.TheVariants.{Out, Asleep, Kept, Awake, Served, Holding, WakingOne, WakingAll}
use Rattle.dc_sleepers.specs.declared.lock.Thread.{Thread}
use Rattle.dc_sleepers.specs.Locks.{State, idle, thread_of, with_thread, placed, moved, roused, roused_all, is_asleep, is_kept}
use Rattle.dc_sleepers.specs.LockLaw.{how_many, number, is_holding}
use Rattle.dc_sleepers.specs.LockSound.{is_counted, is_late, is_late_at, is_passing, is_from, is_behind, IsFine, IsFair, IsSound}
use Rattle.dc_sleepers.proofs.Counts.{one, count_without, within}
use Rattle.dc_sleepers.proofs.Standing.{either, one_below, counts, count_map}
use Rattle.dc_sleepers.proofs.GateNext.{never}
use Rattle.dc_sleepers.proofs.LockFair.{Moves, moves, bland, busy, is_busy, fairly}
use Rattle.dc_sleepers.proofs.LockWrites.{late_asleep_sleeps, leaves_none}

pub asleep_wakes_not : Asleep ≡ WakingOne → ⊥
asleep_wakes_not e = cc

pub asleep_out : Asleep ≡ Out → ⊥
asleep_out e = cc

asleep_alone : (p : Place) → is_asleep p ≡ true → p ≡ Asleep
asleep_alone Asleep e = refl
asleep_alone _ e = never e

kept_alone : (p : Place) → is_kept p ≡ true → p ≡ Kept
kept_alone Kept e = refl
kept_alone _ e = never e

-- all that stand at one place, at which threads sleep, are woken
module _ (test : Place → Bool) (p : Place) (alone : (q : Place) → test q ≡ true → q ≡ p) where
  -- what can't tell a sleeper from one that is woken
  keeps : {A : Type 0} (f : Thread → A) (x : Thread) → f (moved x Awake) ≡ f (moved x p) → f (roused test x) ≡ f x
  keeps {A} f x same = by_case (test x.place) refl where
    by_case : (b : Bool) → test x.place ≡ b → f (if b then moved x Awake else x) ≡ f x
    by_case true e = same ∙ sym (ap f (λ i. record x { place = alone x.place e i }))
    by_case false e = refl

  pub count : (c : Thread → Bool) → ((x : Thread) → c (moved x Awake) ≡ c (moved x p)) → (xs : List Thread) → count_by c (map (roused test) xs) ≡ count_by c xs
  count c same xs = count_map c (roused test) (λ x. keeps c x (same x)) xs

  fine_roused : (served drawn : ℕ) (x : Thread) → IsFine served drawn x → IsFine served drawn (roused test x)
  fine_roused served drawn x F = by_case (test x.place) where
    by_case : (b : Bool) → IsFine served drawn (if b then moved x Awake else x)
    by_case true = bland served drawn (moved x Awake) refl refl refl refl F.slept (λ _. refl)
    by_case false = F

  pub none_left : test Awake ≡ false → (x : Thread) → test (roused test x).place ≡ false
  none_left wakes x = by_case (test x.place) refl where
    by_case : (b : Bool) → test x.place ≡ b → test (if b then moved x Awake else x).place ≡ false
    by_case true e = wakes
    by_case false e = e

  pub fair_roused : is_counted p ≡ true → ((h : Bool) → is_late_at p h ≡ h) → is_holding p ≡ false → is_passing p ≡ false → roused test idle ≡ idle → (s : State) → IsFair s
      → (0 < how_many (roused_all test s) (is_behind s.served) → 0 < how_many s (is_behind s.served)) → IsFair (roused_all test s)
  fair_roused counted late holding passing idles s F behind =
      let passes : number (roused_all test s) is_passing ≡ number s is_passing = count (λ (x : Thread). is_passing x.place) (λ x. sym passing) s.threads in record {
        counted = omega (arith, F.counted, count (λ (x : Thread). is_counted x.place) (λ x. sym counted) s.threads, count is_late (λ x. sym (late x.has_ticket)) s.threads);
        holder = omega (arith, F.holder, count (λ (x : Thread). is_holding x.place) (λ x. sym holding) s.threads);
        out = omega (arith, F.out, count (λ (x : Thread). x.has_ticket) (λ x. refl) s.threads);
        few = λ n. omega (arith, F.few n, count (is_from n) (λ x. refl) s.threads);
        behind = λ some. let more : 0 < number s is_passing = F.behind (behind some) in omega (arith, passes, more);
        each = λ i. subst (IsFine s.served s.drawn) (sym (get_or-map (roused test) s.threads i idle) ∙ ap (λ (d : Thread). get_or (map (roused test) s.threads) i d) idles) (fine_roused s.served s.drawn (thread_of s i) (F.each i));
      }

kept_not_behind : (a b : Bool) → a ≡ false → (a && b) ≡ false
kept_not_behind false b e = refl
kept_not_behind true b e = never (sym e)

module _ (s : State) (t : ℕ) (inside : t < length s.threads) (S : IsSound s) (l h : Bool) (k m n : ℕ) where
  abbrev at : Place → Thread
  at p = record { place = p; has_slept = l; has_ticket = h; ticket = k; limit = m; seen = n }

  abbrev go : Place → State
  go p = with_thread s t (at p)

  abbrev mine : (p : Place) → thread_of s t ≡ at p → IsFine s.served s.drawn (at p)
  mine p e = subst (IsFine s.served s.drawn) e (S.fair.each t)

  pub wakes_nobody : ((i : ℕ) → is_asleep (thread_of s i).place ≡ false) → thread_of s t ≡ at WakingOne → IsSound (go Out)
  wakes_nobody nobody e =
      let w : Moves s.served s.threads (set s.threads t (at Out)) (at WakingOne) (at Out) = moves s.served s.threads t (at WakingOne) (at Out) inside e in
      let none : number s is_asleep ≡ 0 = count_without (λ (y : Thread). is_asleep y.place) s.threads idle nobody in
      leaves_none s t inside S l h k m n WakingOne e refl refl refl refl (mine WakingOne e).holds (omega (arith, w.asleep, none))

  goes_out : (p : Place) → thread_of s t ≡ at p → one (is_counted p) ≡ 0 → is_late (at p) ≡ h → is_holding p ≡ false → one (is_passing p) ≡ 0 → (h ≡ true → false ≡ true) → IsFair (go Out)
  goes_out p e counted as_late holding passing hasn't = let holds : one (is_holding p) ≡ 0 = ap one holding in let still : one (is_late (at p)) ≡ one h = ap one as_late in
      fairly s t (at p) (at Out) s.is_held s.waiting inside e S.fair refl refl (omega (arith, counted, still)) (omega (arith, holds)) (omega arith) (omega (arith, passing)) (bland s.served s.drawn (at Out) refl refl refl refl (mine p e).slept hasn't)

  pub wakes : (j : ℕ) → (thread_of s j).place ≡ Asleep → thread_of s t ≡ at WakingOne → IsSound (placed (go Out) j Awake)
  wakes j sleeps e =
      let s1 = go Out in
      let other : j ≢ t = λ same. asleep_wakes_not (sym sleeps ∙ ap (λ i. (thread_of s i).place) same ∙ ap (λ (x : Thread). x.place) e) in
      let as_was : thread_of s1 j ≡ thread_of s j = get_or-set_other s.threads t j (at Out) idle other in
      let x = thread_of s1 j in
      let still : x.place ≡ Asleep = ap (λ (y : Thread). y.place) as_was ∙ sleeps in
      let z : Thread = record { place = Asleep; has_slept = x.has_slept; has_ticket = x.has_ticket; ticket = x.ticket; limit = x.limit; seen = x.seen } in
      let is_z : x ≡ z = λ i. record x { place = still i } in
      let there : j < length s1.threads = within s1.threads j idle x refl (λ same. asleep_out (sym still ∙ ap (λ (y : Thread). y.place) same)) in
      let F : IsFair s1 = goes_out WakingOne e refl refl refl refl (mine WakingOne e).holds in
      let G : IsFine s.served s.drawn z = subst (IsFine s.served s.drawn) is_z (F.each j) in
      let first : Moves s.served s.threads s1.threads (at WakingOne) (at Out) = moves s.served s.threads t (at WakingOne) (at Out) inside e in
      let w : Moves s.served s1.threads (set s1.threads j (moved x Awake)) z (moved x Awake) = moves s.served s1.threads j z (moved x Awake) there is_z in record {
        fair = fairly s1 j z (moved x Awake) s.is_held s.waiting there is_z F refl refl (omega arith) (omega arith) (omega arith) (omega arith) (bland s.served s.drawn (moved x Awake) refl refl refl refl G.slept (λ _. refl));
        seen_to = λ some. omega (arith, w.tries);
        all = λ some. omega (arith, S.all, first.late_asleep, w.late_asleep, first.all, w.all, some);
      }

  abbrev woken : State
  woken = roused_all is_asleep (go Out)

  pub wakes_all_of_them : thread_of s t ≡ at WakingAll → IsSound woken
  wakes_all_of_them e =
      let F : IsFair (go Out) = goes_out WakingAll e refl refl refl refl (mine WakingAll e).holds in
      let none : number woken is_asleep ≡ 0 = count_without (λ (y : Thread). is_asleep y.place) woken.threads idle (λ i. ap (λ (y : Thread). is_asleep y.place) (get_or-map (roused is_asleep) (go Out).threads i idle) ∙ none_left is_asleep Asleep asleep_alone refl (thread_of (go Out) i)) in
      let same : how_many woken (is_behind s.served) ≡ how_many (go Out) (is_behind s.served) = count is_asleep Asleep asleep_alone (is_behind s.served) (λ x. refl) (go Out).threads in record {
        fair = fair_roused is_asleep Asleep asleep_alone refl (λ _. refl) refl refl refl (go Out) F (λ some. omega (arith, same, some));
        seen_to = λ some. absurd (omega (arith, some, none));
        all = λ some. absurd (omega (arith, some, none, late_asleep_sleeps woken));
      }

  abbrev passed : State
  passed = roused_all is_kept s

  pub wakes_the_kept : thread_of s t ≡ at Served → IsSound (roused_all is_kept (go Holding))
  wakes_the_kept e =
      let none : how_many passed (is_behind s.served) ≡ 0 = count_without (is_behind s.served) passed.threads idle (λ i. kept_not_behind (is_kept (thread_of passed i).place) (not ((thread_of passed i).seen == s.served)) (ap (λ (y : Thread). is_kept y.place) (get_or-map (roused is_kept) s.threads i idle) ∙ none_left is_kept Kept kept_alone refl (thread_of s i))) in
      let F : IsFair passed = fair_roused is_kept Kept kept_alone refl (λ _. refl) refl refl refl s S.fair (λ some. absurd (omega (arith, some, none))) in
      let there : t < length passed.threads = omega (arith, length-map s.threads (roused is_kept)) in
      let stays : thread_of passed t ≡ at Served = get_or-map (roused is_kept) s.threads t idle ∙ ap (roused is_kept) e in
      let w : Moves s.served passed.threads (set passed.threads t (at Holding)) (at Served) (at Holding) = moves s.served passed.threads t (at Served) (at Holding) there stays in
      let G : IsFair (with_thread passed t (at Holding)) = record {
        counted = omega (arith, F.counted, w.counted, w.late);
        holder = omega (arith, F.holder, w.holding);
        out = omega (arith, F.out, w.out);
        few = λ i. omega (arith, F.few i, w.from i);
        behind = λ some. absurd (omega (arith, some, none, w.behind));
        each = Rattle.dc_sleepers.proofs.Standing.each_set (IsFine s.served s.drawn) passed.threads t (at Holding) idle there (λ i _. F.each i)
            (bland s.served s.drawn (at Holding) refl refl refl refl (mine Served e).slept (λ has. never ((mine Served e).holds has)));
      } in
      let same : with_thread passed t (at Holding) ≡ roused_all is_kept (go Holding) = λ i. record s { threads = sym (map-set (roused is_kept) s.threads t (at Holding)) i } in
      busy (roused_all is_kept (go Holding)) (subst IsFair same G) (is_busy s S.fair (counts (λ (y : Thread). is_holding y.place) s.threads t idle inside (ap (λ (y : Thread). is_holding y.place) e)))

-- Calling and waking keep the gate sound.
use Rattle.std.proofs.Common.{◌≡◌, ◌≢◌, ℕ, ◌+◌, ◌<◌, ◌≤◌, ◌==◌, ◌&&◌, not, if◌then◌else◌, Bool, true, false, List, length, map, get_or, set, get_or-set_other, sym, ap, ◌∙◌, subst, arith, refl}
use Rattle.std.specs.List.{count_by}
use Rattle.std.proofs.Math.ListN.{get_or-map}
use Rattle.std.proofs.lemmas.Bool.{eqb-true}
use Rattle.dc_sleepers.specs.declared.gate.Place.{Place}
use Rattle.dc_sleepers.specs.declared.gate.Place.TheVariants.{Out, Counted, Asleep, Gone, Calling, Raised, Looked, WakingOne, WakingAll}
use Rattle.dc_sleepers.specs.declared.gate.Thread.{Thread}
use Rattle.dc_sleepers.specs.Gates.{State, idle, thread_of, with_thread, placed, moved, roused, roused_all, sleeps_behind, is_asleep}
use Rattle.dc_sleepers.specs.GateLaw.{how_many, number}
use Rattle.dc_sleepers.specs.GateLaw.{is_holding}
use Rattle.dc_sleepers.specs.GateSound.{raises_later, wakes_all, may_have_ticket, has_this_ticket, IsFine, IsFair, IsSound}
use Rattle.dc_sleepers.proofs.Counts.{one, count_without, within}
use Rattle.dc_sleepers.proofs.Standing.{counts, found, each_set, count_map}
use Rattle.dc_sleepers.proofs.GateNext.{never, in_range}
use Rattle.dc_sleepers.proofs.GateFair.{Moves, moves, bland, quiet}
use Rattle.dc_sleepers.proofs.GateSteps.{goes_out}

and_right_fails : (a b : Bool) → a ≡ true → (a && b) ≡ false → b ≡ false
and_right_fails true b h e = e
and_right_fails false b h e = never h

not_false : (b : Bool) → not b ≡ false → b ≡ true
not_false true e = refl
not_false false e = never (sym e)

and_left : (a b : Bool) → (a && b) ≡ true → a ≡ true
and_left true b e = refl
and_left false b e = e

asleep_wakes_not : Asleep ≡ WakingOne → ⊥
asleep_wakes_not e = cc

asleep_out : Asleep ≡ Out → ⊥
asleep_out e = cc

is_asleep_is : (p : Place) → is_asleep p ≡ true → p ≡ Asleep
is_asleep_is Asleep e = refl
is_asleep_is _ e = never e

-- a test that can't tell a sleeper from one that is woken
roused_keeps : {A : Type 0} (calls : ℕ) (f : Thread → A) (x : Thread) → f (moved x Counted) ≡ f x → f (roused calls x) ≡ f x
roused_keeps calls f x same = by_case (sleeps_behind calls x) where
  by_case : (b : Bool) → f (if b then moved x Counted else x) ≡ f x
  by_case true = same
  by_case false = refl

by_place : (calls : ℕ) (test : Place → Bool) → test Counted ≡ test Asleep → (xs : List Thread) → count_by (λ (x : Thread). test x.place) (map (roused calls) xs) ≡ count_by (λ (x : Thread). test x.place) xs
by_place calls test same xs = count_map (λ (x : Thread). test x.place) (roused calls) (λ x. each_place x (sleeps_behind calls x) refl) xs where
  each_place : (x : Thread) (b : Bool) → sleeps_behind calls x ≡ b → test (if b then moved x Counted else x).place ≡ test x.place
  each_place x true e = same ∙ ap test (sym (is_asleep_is x.place (and_left (is_asleep x.place) (not (x.seen == calls)) e)))
  each_place x false e = refl

roused_sleeps_not : (calls : ℕ) (x : Thread) → sleeps_behind calls (roused calls x) ≡ false
roused_sleeps_not calls x = by_case (sleeps_behind calls x) refl where
  by_case : (b : Bool) → sleeps_behind calls x ≡ b → sleeps_behind calls (if b then moved x Counted else x) ≡ false
  by_case true e = refl
  by_case false e = e

fine_roused : (calls served tickets r w r' w' : ℕ) (x : Thread) → r ≤ r' → IsFine calls served tickets r w x → IsFine calls served tickets r' w' (roused calls x)
fine_roused calls served tickets r w r' w' x few G = by_case (sleeps_behind calls x) refl where
  by_case : (b : Bool) → sleeps_behind calls x ≡ b → IsFine calls served tickets r' w' (if b then moved x Counted else x)
  by_case true e = let sleeps : x.place ≡ Asleep = is_asleep_is x.place (and_left (is_asleep x.place) (not (x.seen == calls)) e) in
      bland calls served tickets r' w' (moved x Counted) refl refl refl refl refl G.behind (λ has. subst (λ p. may_have_ticket p x.is_counted ≡ true) sleeps (G.holds has))
  by_case false e = record {
    behind = G.behind;
    sleeps = G.sleeps;
    holds = G.holds;
    turn = G.turn;
    next_is = G.next_is;
    stale = λ a b d f. let some : 0 < r = G.stale a b d f in omega arith;
    expects = λ a b d none. G.expects a b d (omega arith);
    called = λ _ b d. absurd (d (eqb-true x.seen calls (not_false (x.seen == calls) (and_right_fails (is_asleep x.place) (not (x.seen == calls)) b e))));
  }

module _ (s : State) (t : ℕ) (inside : t < length s.threads) (S : IsSound s) where
  abbrev fine : Thread → Type 0
  fine x = IsFine s.calls s.served s.tickets (number s raises_later) (number s wakes_all) x

  abbrev m : (x y : Thread) → thread_of s t ≡ x → Moves s.calls s.threads (set s.threads t y) x y
  m x y e = moves s.calls s.threads t x y inside e

  abbrev mine : (x : Thread) → thread_of s t ≡ x → fine x
  mine x e = subst fine e (S.fair.each t)

  -- if nobody is counted, this thread isn't
  uncounted : s.sleepers ≡ 0 → (i : ℕ) → (thread_of s i).is_counted ≡ true → ⊥
  uncounted none i counted = let there : i < length s.threads = within s.threads i idle (thread_of s i) refl (λ same. never (sym (ap (λ (x : Thread). x.is_counted) same) ∙ counted)) in
      let some : 0 < how_many s (λ (x : Thread). x.is_counted) = counts (λ (x : Thread). x.is_counted) s.threads i idle there counted in omega (arith, S.fair.counted)

  module _ (c : Bool) (n : ℕ) (h : Bool) (k r : ℕ) where
    abbrev at : Place → Thread
    at p = record { place = p; is_counted = c; seen = n; has_ticket = h; ticket = k; next = r }

    abbrev go : Place → State
    go p = with_thread s t (at p)

    pub finds_nobody : s.sleepers ≡ 0 → thread_of s t ≡ at Gone → IsSound (go Out)
    finds_nobody none e = let F = mine (at Gone) e in let w : Moves s.calls s.threads (set s.threads t (at Out)) (at Gone) (at Out) = m (at Gone) (at Out) e in record {
      fair = record {
        counted = omega (arith, S.fair.counted, w.counted);
        holder = omega (arith, S.fair.holder, w.holding);
        order = S.fair.order;
        out = λ i a b. omega (arith, S.fair.out i a b, w.ticket_of i);
        was_served = λ i a. omega (arith, S.fair.was_served i a, w.ticket_of i);
        not_taken = λ i a. omega (arith, S.fair.not_taken i a, w.ticket_of i);
        each = each_set (IsFine s.calls s.served s.tickets (number (go Out) raises_later) (number (go Out) wakes_all)) s.threads t (at Out) idle inside
            (λ i _. let G = S.fair.each i in record {
              behind = G.behind;
              sleeps = G.sleeps;
              holds = G.holds;
              turn = G.turn;
              next_is = G.next_is;
              stale = λ a _ _ _. absurd (uncounted none i a);
              expects = λ a _ _ _. absurd (uncounted none i a);
              called = λ a b d. omega (arith, G.called a b d, w.all);
            })
            (bland s.calls s.served s.tickets (number (go Out) raises_later) (number (go Out) wakes_all) (at Out) refl refl refl refl refl F.behind (λ has. never (F.holds has)));
      };
      seen_to = λ some. let at_one : (i : ℕ) × ((i < length s.threads) × (sleeps_behind s.calls (get_or s.threads i idle) ≡ true)) = found (sleeps_behind s.calls) idle s.threads (omega arith) in
          absurd (uncounted none at_one.0 ((S.fair.each at_one.0).sleeps (and_left (is_asleep (thread_of s at_one.0).place) (not ((thread_of s at_one.0).seen == s.calls)) at_one.1.1)));
    }

    abbrev called_once : State
    called_once = record (go Raised) { calls = s.calls + 1 }

    pub raises : thread_of s t ≡ at Calling → IsSound called_once
    raises e = let F = mine (at Calling) e in let w : Moves s.calls s.threads (set s.threads t (at Raised)) (at Calling) (at Raised) = m (at Calling) (at Raised) e in record {
      fair = record {
        counted = omega (arith, S.fair.counted, w.counted);
        holder = omega (arith, S.fair.holder, w.holding);
        order = S.fair.order;
        out = λ i a b. omega (arith, S.fair.out i a b, w.ticket_of i);
        was_served = λ i a. omega (arith, S.fair.was_served i a, w.ticket_of i);
        not_taken = λ i a. omega (arith, S.fair.not_taken i a, w.ticket_of i);
        each = each_set (IsFine (s.calls + 1) s.served s.tickets (number called_once raises_later) (number called_once wakes_all)) s.threads t (at Raised) idle inside
            (λ i _. let G = S.fair.each i in let old : (thread_of s i).seen ≤ s.calls = G.behind in record {
              behind = omega arith;
              sleeps = G.sleeps;
              holds = G.holds;
              turn = G.turn;
              next_is = G.next_is;
              stale = λ _ _ same _. absurd (omega arith);
              expects = λ _ _ same _. absurd (omega arith);
              called = λ _ _ _. omega (arith, w.all);
            })
            (bland (s.calls + 1) s.served s.tickets (number called_once raises_later) (number called_once wakes_all) (at Raised) refl refl refl refl refl (omega (arith, F.behind)) (λ has. never (F.holds has)));
      };
      seen_to = λ some. omega (arith, w.wakes);
    }

    pub finds_no_ticket : s.tickets ≡ r → thread_of s t ≡ at Looked → IsSound (go WakingOne)
    finds_no_ticket none e = let F = mine (at Looked) e in let w : Moves s.calls s.threads (set s.threads t (at WakingOne)) (at Looked) (at WakingOne) = m (at Looked) (at WakingOne) e in record {
      fair = record {
        counted = omega (arith, S.fair.counted, w.counted);
        holder = omega (arith, S.fair.holder, w.holding);
        order = S.fair.order;
        out = λ i a b. omega (arith, S.fair.out i a b, w.ticket_of i);
        was_served = λ i a. omega (arith, S.fair.was_served i a, w.ticket_of i);
        not_taken = λ i a. omega (arith, S.fair.not_taken i a, w.ticket_of i);
        each = each_set (IsFine s.calls s.served s.tickets (number (go WakingOne) raises_later) (number (go WakingOne) wakes_all)) s.threads t (at WakingOne) idle inside
            (λ i _. let G = S.fair.each i in record {
              behind = G.behind;
              sleeps = G.sleeps;
              holds = G.holds;
              turn = G.turn;
              next_is = G.next_is;
              stale = λ a b d f. omega (arith, G.stale a b d f, w.raises);
              expects = λ a b d f. G.expects a b d (omega (arith, f, w.raises));
              called = λ a _ _. let range : (s.served ≤ (thread_of s i).ticket) × ((thread_of s i).ticket < s.tickets) = in_range s S.fair i a in absurd (omega (arith, F.next_is refl));
            })
            (bland s.calls s.served s.tickets (number (go WakingOne) raises_later) (number (go WakingOne) wakes_all) (at WakingOne) refl refl refl refl refl F.behind (λ has. never (F.holds has)));
      };
      seen_to = λ some. omega (arith, S.seen_to);
    }

    pub wakes_nobody : ((i : ℕ) → sleeps_behind s.calls (thread_of s i) ≡ false) → thread_of s t ≡ at WakingOne → IsSound (go Out)
    wakes_nobody nobody e = let w : Moves s.calls s.threads (set s.threads t (at Out)) (at WakingOne) (at Out) = m (at WakingOne) (at Out) e in let none : how_many s (sleeps_behind s.calls) ≡ 0 = count_without (sleeps_behind s.calls) s.threads idle nobody in record {
      fair = goes_out s t inside S c n h k r e;
      seen_to = λ some. absurd (omega arith);
    }

    pub wakes : (j : ℕ) → (thread_of s j).place ≡ Asleep → thread_of s t ≡ at WakingOne → IsSound (placed (go Out) j Counted)
    wakes j sleeps e =
        let s1 = go Out in
        let other : j ≢ t = λ same. asleep_wakes_not (sym sleeps ∙ ap (λ i. (thread_of s i).place) same ∙ ap (λ (x : Thread). x.place) e) in
        let as_was : thread_of s1 j ≡ thread_of s j = get_or-set_other s.threads t j (at Out) idle other in
        let x = thread_of s1 j in
        let still : x.place ≡ Asleep = ap (λ (y : Thread). y.place) as_was ∙ sleeps in
        let z : Thread = record { place = Asleep; is_counted = x.is_counted; seen = x.seen; has_ticket = x.has_ticket; ticket = x.ticket; next = x.next } in
        let is_z : x ≡ z = λ i. record x { place = still i } in
        let there : j < length s1.threads = within s1.threads j idle x refl (λ same. asleep_out (sym still ∙ ap (λ (y : Thread). y.place) same)) in
        let F : IsFair s1 = goes_out s t inside S c n h k r e in
        let G : IsFine s1.calls s1.served s1.tickets (number s1 raises_later) (number s1 wakes_all) z = subst (IsFine s1.calls s1.served s1.tickets (number s1 raises_later) (number s1 wakes_all)) is_z (F.each j) in
        let w : Moves s1.calls s1.threads (set s1.threads j (moved x Counted)) z (moved x Counted) = moves s1.calls s1.threads j z (moved x Counted) there is_z in
        let just : one x.is_counted ≡ 1 = ap one (G.sleeps refl) in record {
          fair = quiet s1 j z (moved x Counted) there is_z F refl refl refl refl (omega arith) (omega arith)
              (bland s1.calls s1.served s1.tickets (number (with_thread s1 j (moved x Counted)) raises_later) (number (with_thread s1 j (moved x Counted)) wakes_all) (moved x Counted) refl refl refl refl refl G.behind G.holds);
          seen_to = λ some. omega (arith, w.awake, just);
        }

    abbrev after_all_wake : State
    after_all_wake = roused_all (go Out)

    pub wakes_all_of_them : thread_of s t ≡ at WakingAll → IsSound after_all_wake
    wakes_all_of_them e = let F = mine (at WakingAll) e in let w : Moves s.calls s.threads (set s.threads t (at Out)) (at WakingAll) (at Out) = m (at WakingAll) (at Out) e in
        let raised : number after_all_wake raises_later ≡ number (go Out) raises_later = by_place s.calls raises_later refl (go Out).threads in
        let tickets : (i : ℕ) → how_many after_all_wake (has_this_ticket i) ≡ how_many (go Out) (has_this_ticket i) = λ i. count_map (has_this_ticket i) (roused s.calls) (λ x. roused_keeps s.calls (λ y. has_this_ticket i y) x refl) (go Out).threads in record {
          fair = record {
            counted = omega (arith, S.fair.counted, w.counted, count_map (λ (x : Thread). x.is_counted) (roused s.calls) (λ x. roused_keeps s.calls (λ y. y.is_counted) x refl) (go Out).threads);
            holder = omega (arith, S.fair.holder, w.holding, by_place s.calls is_holding refl (go Out).threads);
            order = S.fair.order;
            out = λ i a b. omega (arith, S.fair.out i a b, w.ticket_of i, tickets i);
            was_served = λ i a. omega (arith, S.fair.was_served i a, w.ticket_of i, tickets i);
            not_taken = λ i a. omega (arith, S.fair.not_taken i a, w.ticket_of i, tickets i);
            each = λ i. subst (IsFine s.calls s.served s.tickets (number after_all_wake raises_later) (number after_all_wake wakes_all)) (sym (get_or-map (roused s.calls) (go Out).threads i idle))
                (each_set (λ x. IsFine s.calls s.served s.tickets (number after_all_wake raises_later) (number after_all_wake wakes_all) (roused s.calls x)) s.threads t (at Out) idle inside
                (λ j _. fine_roused s.calls s.served s.tickets (number s raises_later) (number s wakes_all) (number after_all_wake raises_later) (number after_all_wake wakes_all) (thread_of s j) (omega (arith, raised, w.raises)) (S.fair.each j))
                (bland s.calls s.served s.tickets (number after_all_wake raises_later) (number after_all_wake wakes_all) (at Out) refl refl refl refl refl F.behind (λ has. never (F.holds has))) i);
          };
          seen_to = λ some. let none : how_many after_all_wake (sleeps_behind s.calls) ≡ 0 = count_without (sleeps_behind s.calls) after_all_wake.threads idle (λ i. ap (sleeps_behind s.calls) (get_or-map (roused s.calls) (go Out).threads i idle) ∙ roused_sleeps_not s.calls (thread_of (go Out) i)) in absurd (omega arith);
        }

-- The steps at the gate that write a word keep it sound.
use Rattle.std.proofs.Common.{◌≡◌, ◌≢◌, ℕ, ◌+◌, ◌-◌, ◌<◌, ◌≤◌, inl, inr, ◌==◌, ◌&&◌, not, Bool, true, false, cond, length, set, le_refl, sym, ap, ◌∙◌, subst, arith, refl}
use Rattle.std.proofs.lemmas.Bool.{cases_lt, eqb-true, eq-eqb}
use Rattle.dc_sleepers.specs.declared.gate.Place.{Place}
use Rattle.dc_sleepers.specs.declared.gate.Place.TheVariants.{Trying, Told, Counted, Holding, Given, Leaving, Gone}
use Rattle.dc_sleepers.specs.declared.gate.Thread.{Thread}
use Rattle.dc_sleepers.specs.Gates.{State, idle, thread_of, with_thread}
use Rattle.dc_sleepers.specs.GateLaw.{how_many, number}
use Rattle.dc_sleepers.specs.GateLaw.{is_holding}
use Rattle.dc_sleepers.specs.GateSound.{raises_later, wakes_all, has_this_ticket, IsFine, IsSound}
use Rattle.dc_sleepers.proofs.Counts.{one}
use Rattle.dc_sleepers.proofs.Standing.{either, one_below, counts, each_set, only_one}
use Rattle.dc_sleepers.proofs.GateNext.{never, in_range, has_place, this_ticket}
use Rattle.dc_sleepers.proofs.GateFair.{Moves, moves, bland, turned, more, calmly, quiet}

-- this number is no other
other_number : (has : Bool) (n k : ℕ) → n ≢ k → one (has && (n == k)) ≡ 0
other_number true n k apart = elim (either (n == k)) [ inl same ↦ absurd (apart (eqb-true n k same)) | inr other ↦ ap one other ]
other_number false n k apart = refl

by_held : (held : Bool) (a b : ℕ) → a + 1 ≡ b + 0 → b ≡ cond held 1 0 → cond {A = ℕ} false 1 0 + 1 ≡ cond held 1 0 + 0
by_held true a b e f = refl
by_held false a b e f = absurd (omega arith)

more_tickets : (calls served tickets r w : ℕ) (x : Thread) → IsFine calls served tickets r w x → IsFine calls served (tickets + 1) r w x
more_tickets calls served tickets r w x F = record {
  behind = F.behind;
  sleeps = F.sleeps;
  holds = F.holds;
  turn = F.turn;
  next_is = F.next_is;
  stale = F.stale;
  called = F.called;
  expects = λ a b d none. let out : (served < tickets) × (x.has_ticket ≡ true → x.ticket ≢ served) = F.expects a b d none in (omega (arith, out.0), out.1);
}

others_or : (c : Bool) (n : ℕ) → (n + cond c 0 1) + one c ≡ n + 1
others_or true n = omega arith
others_or false n = omega arith

module _ (s : State) (t : ℕ) (inside : t < length s.threads) (S : IsSound s) where
  abbrev fine : Thread → Type 0
  fine x = IsFine s.calls s.served s.tickets (number s raises_later) (number s wakes_all) x

  abbrev m : (x y : Thread) → thread_of s t ≡ x → Moves s.calls s.threads (set s.threads t y) x y
  m x y e = moves s.calls s.threads t x y inside e

  abbrev mine : (x : Thread) → thread_of s t ≡ x → fine x
  mine x e = subst fine e (S.fair.each t)

  module _ (c : Bool) (n : ℕ) (h : Bool) (k r : ℕ) where
    abbrev at : Place → Thread
    at p = record { place = p; is_counted = c; seen = n; has_ticket = h; ticket = k; next = r }

    abbrev go : Place → State
    go p = with_thread s t (at p)

    pub gets : s.is_held ≡ false → thread_of s t ≡ at Trying → IsSound (record (go Holding) { is_held = true })
    gets free e = let F = mine (at Trying) e in let w : Moves s.calls s.threads (set s.threads t (at Holding)) (at Trying) (at Holding) = m (at Trying) (at Holding) e in let none : cond {A = ℕ} s.is_held 1 0 ≡ 0 = ap (λ b. cond b 1 0) free in record {
      fair = calmly s t (at Trying) (at Holding) true s.sleepers inside e S.fair refl refl refl (omega (arith, none)) (omega arith) (omega arith)
          (turned s.calls s.served s.tickets (number (go Holding) raises_later) (number (go Holding) wakes_all) (at Holding) refl refl refl refl F.behind (λ _. refl) (λ has. F.turn has refl));
      seen_to = λ some. omega arith;
    }

    pub gives : thread_of s t ≡ at Holding → IsSound (record (go Given) { is_held = false })
    gives e = let F = mine (at Holding) e in let w : Moves s.calls s.threads (set s.threads t (at Given)) (at Holding) (at Given) = m (at Holding) (at Given) e in record {
      fair = calmly s t (at Holding) (at Given) false s.sleepers inside e S.fair refl refl refl (by_held s.is_held (number (go Given) is_holding) (number s is_holding) w.holding S.fair.holder) (omega arith) (omega arith)
          (turned s.calls s.served s.tickets (number (go Given) raises_later) (number (go Given) wakes_all) (at Given) refl refl refl refl F.behind (λ _. refl) (λ has. F.turn has refl));
      seen_to = λ some. omega arith;
    }

    abbrev counted : Thread
    counted = record { place = Counted; is_counted = true; seen = n; has_ticket = h; ticket = k; next = r }

    pub is_counted_in : thread_of s t ≡ at Told → IsSound (record (with_thread s t counted) { sleepers = s.sleepers + cond c 0 1 })
    is_counted_in e = let F = mine (at Told) e in let w : Moves s.calls s.threads (set s.threads t counted) (at Told) counted = m (at Told) counted e in record {
      fair = calmly s t (at Told) counted s.is_held (s.sleepers + cond c 0 1) inside e S.fair refl refl (others_or c s.sleepers) refl (omega arith) (omega arith)
          (bland s.calls s.served s.tickets (number (with_thread s t counted) raises_later) (number (with_thread s t counted) wakes_all) counted refl refl refl refl refl F.behind (λ _. refl));
      seen_to = λ some. omega (arith, S.seen_to, one_below (c && not (n == s.calls)));
    }

    abbrev leaving : Thread
    leaving = record { place = Leaving; is_counted = false; seen = n; has_ticket = h; ticket = k; next = r }

    pub is_counted_out : thread_of s t ≡ at Given → IsSound (record (with_thread s t leaving) { sleepers = s.sleepers - cond c 1 0 })
    is_counted_out e = let F = mine (at Given) e in let w : Moves s.calls s.threads (set s.threads t leaving) (at Given) leaving = m (at Given) leaving e in record {
      fair = calmly s t (at Given) leaving s.is_held (s.sleepers - cond c 1 0) inside e S.fair refl refl (omega (arith, S.fair.counted, w.counted)) refl (omega arith) (omega arith)
          (turned s.calls s.served s.tickets (number (with_thread s t leaving) raises_later) (number (with_thread s t leaving) wakes_all) leaving refl refl refl refl F.behind (λ _. refl) (λ has. F.turn has refl));
      seen_to = λ some. omega arith;
    }

    abbrev ticketed : Thread
    ticketed = record { place = Counted; is_counted = c; seen = n; has_ticket = true; ticket = s.tickets; next = r }

    abbrev one_more : State
    one_more = record (with_thread s t ticketed) { tickets = s.tickets + 1 }

    pub takes_ticket : c ≡ true → h ≡ false → thread_of s t ≡ at Counted → IsSound one_more
    takes_ticket counted has_none e = let F = mine (at Counted) e in let w : Moves s.calls s.threads (set s.threads t ticketed) (at Counted) ticketed = m (at Counted) ticketed e in
        let before : (i : ℕ) → one (has_this_ticket i (at Counted)) ≡ 0 = λ i. ap (λ b. one (b && (k == i))) has_none in
        let apart : (i : ℕ) → s.tickets ≢ i → one (has_this_ticket i ticketed) ≡ 0 = λ i other. other_number true s.tickets i other in
        let own : one (has_this_ticket s.tickets ticketed) ≡ 1 = ap one (eq-eqb s.tickets s.tickets refl) in record {
          fair = record {
            counted = omega (arith, S.fair.counted, w.counted);
            holder = omega (arith, S.fair.holder, w.holding);
            order = omega (arith, S.fair.order);
            out = λ i a b. elim (cases_lt i s.tickets) [
              | inl old ↦ omega (arith, S.fair.out i a old, w.ticket_of i, before i, apart i (λ same. absurd (omega arith)))
              | inr new ↦ let same : s.tickets ≡ i = omega arith in subst (λ j. how_many one_more (has_this_ticket j) ≡ 1) same (omega (arith, S.fair.not_taken s.tickets (le_refl s.tickets), w.ticket_of s.tickets, before s.tickets, own))
            ];
            was_served = λ i a. omega (arith, S.fair.was_served i a, S.fair.order, w.ticket_of i, before i, apart i (λ same. absurd (omega (arith, S.fair.order))));
            not_taken = λ i a. omega (arith, S.fair.not_taken i (omega arith), w.ticket_of i, before i, apart i (λ same. absurd (omega arith)));
            each = each_set (IsFine s.calls s.served (s.tickets + 1) (number one_more raises_later) (number one_more wakes_all)) s.threads t ticketed idle inside
                (λ i _. more_tickets s.calls s.served s.tickets (number one_more raises_later) (number one_more wakes_all) (thread_of s i) (more s.calls s.served s.tickets (number s raises_later) (number s wakes_all) (number one_more raises_later) (number one_more wakes_all) (thread_of s i) (S.fair.each i) (omega (arith, w.raises)) (omega (arith, w.all))))
                (bland s.calls s.served (s.tickets + 1) (number one_more raises_later) (number one_more wakes_all) ticketed refl refl refl refl refl F.behind (λ _. counted));
          };
          seen_to = λ some. omega (arith, S.seen_to);
        }

    abbrev gone : Thread
    gone = record { place = Gone; is_counted = c; seen = n; has_ticket = false; ticket = k; next = r }

    abbrev one_served : State
    one_served = record (with_thread s t gone) { served = s.served + 1 }

    pub serves : h ≡ true → thread_of s t ≡ at Leaving → IsSound one_served
    serves has e = let F = mine (at Leaving) e in let w : Moves s.calls s.threads (set s.threads t gone) (at Leaving) gone = m (at Leaving) gone e in
        let its : k ≡ s.served = F.turn has refl in
        let range : (s.served ≤ k) × (k < s.tickets) = subst (λ (x : Thread). (s.served ≤ x.ticket) × (x.ticket < s.tickets)) e (in_range s S.fair t (ap (λ (x : Thread). x.has_ticket) e ∙ has)) in
        let apart : (i : ℕ) → k ≢ i → one (has_this_ticket i (at Leaving)) ≡ 0 = λ i other. other_number h k i other in
        let here : 0 < number s raises_later = counts (λ (y : Thread). raises_later y.place) s.threads t idle inside (ap (λ (x : Thread). raises_later x.place) e) in
        let own : one (has_this_ticket s.served (at Leaving)) ≡ 1 = ap one (this_ticket h k s.served has its) in record {
          fair = record {
            counted = omega (arith, S.fair.counted, w.counted);
            holder = omega (arith, S.fair.holder, w.holding);
            order = omega (arith, range.1, its);
            out = λ i a b. omega (arith, S.fair.out i (omega arith) b, w.ticket_of i, apart i (λ same. absurd (omega (arith, its))));
            was_served = λ i a. elim (cases_lt i s.served) [
              | inl old ↦ omega (arith, S.fair.was_served i old, w.ticket_of i)
              | inr new ↦ let same : s.served ≡ i = omega arith in subst (λ j. how_many one_served (has_this_ticket j) ≡ 0) same (omega (arith, S.fair.out s.served (le_refl s.served) (omega (arith, range.1, its)), w.ticket_of s.served, own))
            ];
            not_taken = λ i a. omega (arith, S.fair.not_taken i a, w.ticket_of i);
            each = each_set (IsFine s.calls (s.served + 1) s.tickets (number one_served raises_later) (number one_served wakes_all)) s.threads t gone idle inside
                (λ i other. let G = S.fair.each i in record {
                  behind = G.behind;
                  sleeps = G.sleeps;
                  holds = G.holds;
                  turn = λ a b. absurd (only_one (has_this_ticket s.served) s.threads t i idle refl (S.fair.out s.served (le_refl s.served) (omega (arith, range.1, its))) inside (has_place s i a)
                      (ap (has_this_ticket s.served) e ∙ this_ticket h k s.served has its) (this_ticket (thread_of s i).has_ticket (thread_of s i).ticket s.served a (G.turn a b)) (λ same. other (sym same)));
                  next_is = λ a. omega (arith, G.next_is a);
                  stale = λ _ _ _ _. omega (arith, w.raises);
                  expects = λ _ _ _ none. absurd (omega (arith, w.raises, none));
                  called = λ a b d. omega (arith, G.called a b d, w.all);
                })
                (bland s.calls (s.served + 1) s.tickets (number one_served raises_later) (number one_served wakes_all) gone refl refl refl refl refl F.behind (λ a. never a));
          };
          seen_to = λ some. omega (arith, w.raises);
        }

    pub serves_none : h ≡ false → thread_of s t ≡ at Leaving → IsSound (with_thread s t gone)
    serves_none has_none e = let F = mine (at Leaving) e in let w : Moves s.calls s.threads (set s.threads t gone) (at Leaving) gone = m (at Leaving) gone e in record {
      fair = quiet s t (at Leaving) gone inside e S.fair refl (sym has_none) refl refl (omega arith) (omega arith) (bland s.calls s.served s.tickets (number (with_thread s t gone) raises_later) (number (with_thread s t gone) wakes_all) gone refl refl refl refl refl F.behind (λ a. never a));
      seen_to = λ some. omega (arith, w.raises);
    }

-- The steps at the gate that write no word keep it sound.
use Rattle.std.proofs.Common.{◌≡◌, ◌≢◌, ℕ, ◌<◌, ◌≤◌, ◌⊎◌, inl, inr, ◌==◌, ◌&&◌, not, Bool, true, false, cond, length, set, if◌then◌else◌, ◌||◌, get_or-set_same, le_refl, sym, ap, ◌∙◌, subst, arith, refl}
use Rattle.std.proofs.lemmas.Bool.{cases_lt, cases_eq, eqb-true, eqb-false, eq-eqb}
use Rattle.dc_sleepers.specs.declared.gate.Place.{Place}
use Rattle.dc_sleepers.specs.declared.gate.Place.TheVariants.{Out, Asking, Asked, Trying, Told, Counted, Asleep, Holding, Given, Gone, Calling, Raised, Looked, WakingOne, WakingAll}
use Rattle.dc_sleepers.specs.declared.gate.Thread.{Thread}
use Rattle.dc_sleepers.specs.Gates.{State, idle, thread_of, with_thread, may_try, sleeps_behind, is_asleep}
use Rattle.dc_sleepers.specs.GateLaw.{number, is_awake}
use Rattle.dc_sleepers.specs.GateLaw.{is_holding}
use Rattle.dc_sleepers.specs.GateSound.{raises_later, wakes_later, wakes_all, may_have_ticket, has_its_turn, is_asked, has_read_served, settles, IsFine, IsFair, IsSound}
use Rattle.dc_sleepers.proofs.Counts.{one, count_below}
use Rattle.dc_sleepers.proofs.Standing.{either, one_below}
use Rattle.dc_sleepers.proofs.GateNext.{never, in_range, settled_sees, awake_told}
use Rattle.dc_sleepers.proofs.GateFair.{Moves, moves, bland, turned, quiet}

one_and : (a b : Bool) → one (a && b) ≤ one a
one_and true b = one_below b
one_and false b = omega arith

one_and_not : (a b : Bool) → b ≡ true → one (a && not b) ≡ 0
one_and_not true true e = refl
one_and_not false b e = refl
one_and_not true false e = never e

or_cases : (a b : Bool) → (a || b) ≡ true → (a ≡ true) ⊎ (b ≡ true)
or_cases true b e = inl refl
or_cases false b e = inr e

or_neither : (a b : Bool) → (a || b) ≡ false → (a ≡ false) × (b ≡ false)
or_neither true b e = never (sym e)
or_neither false b e = (refl, e)

and_right : (a b : Bool) → (a && b) ≡ true → b ≡ true
and_right true b e = e
and_right false b e = never e

and_fails : (a b : Bool) → a ≡ true → (a && b) ≡ false → b ≡ false
and_fails true b h e = e
and_fails false b h e = never h

holding_raises : (p : Place) → one (is_holding p) ≤ one (raises_later p)
holding_raises Holding = omega arith
holding_raises _ = omega arith

pub held_raises : (s : State) → IsFair s → s.is_held ≡ true → 0 < number s raises_later
held_raises s F held = let few : number s is_holding ≤ number s raises_later = count_below (λ (y : Thread). is_holding y.place) (λ (y : Thread). raises_later y.place) (λ y. holding_raises y.place) s.threads in let just : cond {A = ℕ} s.is_held 1 0 ≡ 1 = ap (λ b. cond b 1 0) held in omega (arith, F.holder)

module _ (s : State) (t : ℕ) (inside : t < length s.threads) (S : IsSound s) where
  abbrev fine : Thread → Type 0
  fine x = IsFine s.calls s.served s.tickets (number s raises_later) (number s wakes_all) x

  abbrev m : (x y : Thread) → thread_of s t ≡ x → Moves s.calls s.threads (set s.threads t y) x y
  m x y e = moves s.calls s.threads t x y inside e

  abbrev mine : (x : Thread) → thread_of s t ≡ x → fine x
  mine x e = subst fine e (S.fair.each t)

  module _ (c : Bool) (n : ℕ) (h : Bool) (k r : ℕ) where
    abbrev at : Place → Thread
    at p = record { place = p; is_counted = c; seen = n; has_ticket = h; ticket = k; next = r }

    abbrev go : Place → State
    go p = with_thread s t (at p)

    abbrev here : (p q : Place) → thread_of s t ≡ at p → Moves s.calls s.threads (set s.threads t (at q)) (at p) (at q)
    here p q e = m (at p) (at q) e

    -- a thread goes to such a place, at which nothing is asked of it
    pub to_bland : (p q : Place) → thread_of s t ≡ at p → is_asleep q ≡ false → has_its_turn q ≡ false → has_read_served q ≡ false → is_asked q ≡ false → settles q ≡ false
        → is_holding q ≡ is_holding p → one (raises_later p) ≤ one (raises_later q) → one (wakes_all p) ≤ one (wakes_all q) → (h ≡ true → may_have_ticket q c ≡ true) → IsFair (go q)
    to_bland p q e a b d f g holding raises all holds = quiet s t (at p) (at q) inside e S.fair refl refl refl holding raises all
        (bland s.calls s.served s.tickets (number (go q) raises_later) (number (go q) wakes_all) (at q) a b d f g (mine (at p) e).behind holds)

    pub comes : thread_of s t ≡ at Out → IsSound (go Asking)
    comes e = let w : Moves s.calls s.threads (set s.threads t (at Asking)) (at Out) (at Asking) = here Out Asking e in record {
      fair = to_bland Out Asking e refl refl refl refl refl refl (omega arith) (omega arith) (λ has. never ((mine (at Out) e).holds has));
      seen_to = λ some. omega arith;
    }

    to_turn : (p q : Place) → thread_of s t ≡ at p → is_asleep q ≡ false → has_read_served q ≡ false → is_asked q ≡ false → settles q ≡ false
        → is_holding q ≡ is_holding p → one (raises_later p) ≤ one (raises_later q) → one (wakes_all p) ≤ one (wakes_all q) → (h ≡ true → may_have_ticket q c ≡ true) → (h ≡ true → k ≡ s.served) → IsFair (go q)
    to_turn p q e a d f g holding raises all holds turn = quiet s t (at p) (at q) inside e S.fair refl refl refl holding raises all
        (turned s.calls s.served s.tickets (number (go q) raises_later) (number (go q) wakes_all) (at q) a d f g (mine (at p) e).behind holds turn)

    pub comes_bare : thread_of s t ≡ at Out → IsSound (go Trying)
    comes_bare e = let w : Moves s.calls s.threads (set s.threads t (at Trying)) (at Out) (at Trying) = here Out Trying e in record {
      fair = to_turn Out Trying e refl refl refl refl refl (omega arith) (omega arith) (λ has. never ((mine (at Out) e).holds has)) (λ has. never ((mine (at Out) e).holds has));
      seen_to = λ some. omega arith;
    }

    abbrev read : Place → Thread
    read p = record { place = p; is_counted = c; seen = n; has_ticket = h; ticket = k; next = s.served }

    pub reads_served : thread_of s t ≡ at Asking → IsSound (with_thread s t (read Asked))
    reads_served e = let F = mine (at Asking) e in let w : Moves s.calls s.threads (set s.threads t (read Asked)) (at Asking) (read Asked) = m (at Asking) (read Asked) e in record {
      fair = quiet s t (at Asking) (read Asked) inside e S.fair refl refl refl refl (omega arith) (omega arith) record {
        behind = F.behind;
        sleeps = λ a. never a;
        holds = F.holds;
        turn = λ _ a. never a;
        next_is = λ _. le_refl s.served;
        stale = λ _ _ _ other. absurd (other refl);
        expects = λ _ a. never a;
        called = λ _ a. never a;
      };
      seen_to = λ some. omega arith;
    }

    pub looks_served : thread_of s t ≡ at Raised → IsSound (with_thread s t (read Looked))
    looks_served e = let F = mine (at Raised) e in let w : Moves s.calls s.threads (set s.threads t (read Looked)) (at Raised) (read Looked) = m (at Raised) (read Looked) e in record {
      fair = quiet s t (at Raised) (read Looked) inside e S.fair refl refl refl refl (omega arith) (omega arith) record {
        behind = F.behind;
        sleeps = λ a. never a;
        holds = F.holds;
        turn = λ _ a. never a;
        next_is = λ _. le_refl s.served;
        stale = λ _ a. never a;
        expects = λ _ a. never a;
        called = λ _ a. never a;
      };
      seen_to = λ some. omega arith;
    }

    -- told no by the tickets, or by the one that has the lock
    told : (p : Place) → thread_of s t ≡ at p → IsFair (go Told) → one (raises_later p) ≡ 0 → one (wakes_later p) ≡ 0 → one (is_awake s.calls (at p)) ≡ one c → one (sleeps_behind s.calls (at p)) ≡ 0 → IsSound (go Told)
    told p e F raises wakes awake behind = record {
      fair = F;
      seen_to = λ some. elim (either c) [
        | inl counted ↦ elim (either (n == s.calls)) [
          | inl same ↦ settled_sees (go Told) F t (ap (λ (x : Thread). x.is_counted) there ∙ counted) (ap (λ (x : Thread). x.seen) there ∙ eqb-true n s.calls same) (ap (λ (x : Thread). settles x.place) there)
          | inr other ↦ let still : one (is_awake s.calls (at Told)) ≡ 1 = ap one (awake_told c (n == s.calls) counted other) in let just : one c ≡ 1 = ap one counted in let w : Moves s.calls s.threads (set s.threads t (at Told)) (at p) (at Told) = here p Told e in omega (arith, S.seen_to)
        ]
        | inr fails ↦ let none : one c ≡ 0 = ap one fails in let w : Moves s.calls s.threads (set s.threads t (at Told)) (at p) (at Told) = here p Told e in omega (arith, S.seen_to)
      ];
    }
      where
        there : thread_of (go Told) t ≡ at Told
        there = get_or-set_same s.threads t (at Told) idle inside

    told_fair : (p : Place) → thread_of s t ≡ at p → is_holding p ≡ false → one (raises_later p) ≡ 0 → one (wakes_all p) ≡ 0 → (h ≡ true → c ≡ true)
        → (c ≡ true → n ≡ s.calls → number s raises_later ≡ 0 → (s.served < s.tickets) × (h ≡ true → k ≢ s.served)) → IsFair (go Told)
    told_fair p e holding raises all holds expects = quiet s t (at p) (at Told) inside e S.fair refl refl refl (sym holding) (omega arith) (omega arith) record {
      behind = (mine (at p) e).behind;
      sleeps = λ a. never a;
      holds = holds;
      turn = λ _ a. never a;
      next_is = λ a. never a;
      stale = λ _ a. never a;
      expects = λ counted _ same none. let w : Moves s.calls s.threads (set s.threads t (at Told)) (at p) (at Told) = here p Told e in expects counted same (omega (arith, none));
      called = λ _ a. never a;
    }

    pub refused : s.is_held ≡ true → thread_of s t ≡ at Trying → IsSound (go Told)
    refused held e = told Trying e (told_fair Trying e refl refl refl (mine (at Trying) e).holds (λ _ _ none. absurd (omega (arith, held_raises s S.fair held)))) refl refl refl refl

    told_by : (s.tickets == r) ≡ false → thread_of s t ≡ at Asked → (h && (k == r)) ≡ false → c ≡ true → n ≡ s.calls → number s raises_later ≡ 0 → (s.served < s.tickets) × (h ≡ true → k ≢ s.served)
    told_by differ e not_mine counted same none = elim (cases_eq r s.served) [
      | inl now ↦ let apart : s.tickets ≢ r = eqb-false s.tickets r differ in let order : s.served ≤ s.tickets = S.fair.order in
          ((elim (cases_lt s.served s.tickets) [ inl less ↦ less | inr past ↦ absurd (apart (omega arith)) ]), (λ has own. eqb-false k r (and_fails h (k == r) has not_mine) (own ∙ sym now)))
      | inr before ↦ absurd (omega (arith, (mine (at Asked) e).stale counted refl same before))
    ]

    in_turn : thread_of s t ≡ at Asked → h ≡ true → ((s.tickets == r) ≡ true) ⊎ ((h && (k == r)) ≡ true) → k ≡ s.served
    in_turn e has may =
        let range : (s.served ≤ k) × (k < s.tickets) = subst (λ (x : Thread). (s.served ≤ x.ticket) × (x.ticket < s.tickets)) e (in_range s S.fair t (ap (λ (x : Thread). x.has_ticket) e ∙ has)) in
        let next : r ≤ s.served = (mine (at Asked) e).next_is refl in
        elim may [ inl none ↦ absurd (omega (arith, eqb-true s.tickets r none)) | inr own ↦ omega (arith, eqb-true k r (and_right h (k == r) own)) ]

    pub reads_tickets : (b : Bool) → may_try s.tickets (at Asked) ≡ b → thread_of s t ≡ at Asked → IsSound (with_thread s t (at (if b then Trying else Told)))
    reads_tickets true may e = let F = mine (at Asked) e in let w : Moves s.calls s.threads (set s.threads t (at Trying)) (at Asked) (at Trying) = here Asked Trying e in record {
      fair = to_turn Asked Trying e refl refl refl refl refl (omega arith) (omega arith) F.holds (λ has. in_turn e has (or_cases (s.tickets == r) (h && (k == r)) may));
      seen_to = λ some. omega arith;
    }
    reads_tickets false may e = let neither : ((s.tickets == r) ≡ false) × ((h && (k == r)) ≡ false) = or_neither (s.tickets == r) (h && (k == r)) may in
        told Asked e (told_fair Asked e refl refl refl (mine (at Asked) e).holds (told_by neither.0 e neither.1)) refl refl refl refl

    pub answers : thread_of s t ≡ at Trying → IsSound (go Given)
    answers e = let F = mine (at Trying) e in let w : Moves s.calls s.threads (set s.threads t (at Given)) (at Trying) (at Given) = here Trying Given e in record {
      fair = to_turn Trying Given e refl refl refl refl refl (omega arith) (omega arith) (λ _. refl) (λ has. F.turn has refl);
      seen_to = λ some. omega arith;
    }

    pub asks_again : thread_of s t ≡ at Told → IsSound (go Asking)
    asks_again e = let w : Moves s.calls s.threads (set s.threads t (at Asking)) (at Told) (at Asking) = here Told Asking e in record {
      fair = to_bland Told Asking e refl refl refl refl refl refl (omega arith) (omega arith) (mine (at Told) e).holds;
      seen_to = λ some. omega (arith, one_and c (not (n == s.calls)), S.seen_to);
    }

    pub leaves : c ≡ false → thread_of s t ≡ at Told → IsSound (go Out)
    leaves uncounted e = let w : Moves s.calls s.threads (set s.threads t (at Out)) (at Told) (at Out) = here Told Out e in let none : one c ≡ 0 = ap one uncounted in record {
      fair = to_bland Told Out e refl refl refl refl refl refl (omega arith) (omega arith) (λ has. never (sym uncounted ∙ (mine (at Told) e).holds has));
      seen_to = λ some. omega (arith, one_and c (not (n == s.calls)), S.seen_to);
    }

    abbrev fresh : Thread
    fresh = record { place = Asking; is_counted = c; seen = s.calls; has_ticket = h; ticket = k; next = r }

    pub reads_calls : thread_of s t ≡ at Counted → IsSound (with_thread s t fresh)
    reads_calls e = let F = mine (at Counted) e in let w : Moves s.calls s.threads (set s.threads t fresh) (at Counted) fresh = m (at Counted) fresh e in record {
      fair = quiet s t (at Counted) fresh inside e S.fair refl refl refl refl (omega arith) (omega arith) (bland s.calls s.served s.tickets (number (with_thread s t fresh) raises_later) (number (with_thread s t fresh) wakes_all) fresh refl refl refl refl refl (le_refl s.calls) F.holds);
      seen_to = λ some. omega arith;
    }

    pub falls_asleep : n ≡ s.calls → c ≡ true → thread_of s t ≡ at Told → IsSound (go Asleep)
    falls_asleep same counted e = let F = mine (at Told) e in let w : Moves s.calls s.threads (set s.threads t (at Asleep)) (at Told) (at Asleep) = here Told Asleep e in record {
      fair = quiet s t (at Told) (at Asleep) inside e S.fair refl refl refl refl (omega arith) (omega arith) record {
        behind = F.behind;
        sleeps = λ _. counted;
        holds = F.holds;
        turn = λ _ a. never a;
        next_is = λ a. never a;
        stale = λ _ a. never a;
        expects = λ d _ f none. F.expects d refl f (omega (arith, none));
        called = λ _ _ other. absurd (other same);
      };
      seen_to = λ some. let gone : one (c && not (n == s.calls)) ≡ 0 = one_and_not c (n == s.calls) (eq-eqb n s.calls same) in let hidden : one (not (n == s.calls)) ≡ 0 = one_and_not true (n == s.calls) (eq-eqb n s.calls same) in omega (arith, S.seen_to);
    }

    pub returns_at_once : thread_of s t ≡ at Told → IsSound (go Counted)
    returns_at_once e = let w : Moves s.calls s.threads (set s.threads t (at Counted)) (at Told) (at Counted) = here Told Counted e in record {
      fair = to_bland Told Counted e refl refl refl refl refl refl (omega arith) (omega arith) (mine (at Told) e).holds;
      seen_to = λ some. omega (arith, one_and c (not (n == s.calls)), S.seen_to);
    }

    pub wakes_up : thread_of s t ≡ at Asleep → IsSound (go Counted)
    wakes_up e = let w : Moves s.calls s.threads (set s.threads t (at Counted)) (at Asleep) (at Counted) = here Asleep Counted e in record {
      fair = to_bland Asleep Counted e refl refl refl refl refl refl (omega arith) (omega arith) (mine (at Asleep) e).holds;
      seen_to = λ some. omega (arith, S.seen_to);
    }

    pub finds_sleepers : thread_of s t ≡ at Gone → IsSound (go Calling)
    finds_sleepers e = let w : Moves s.calls s.threads (set s.threads t (at Calling)) (at Gone) (at Calling) = here Gone Calling e in record {
      fair = to_bland Gone Calling e refl refl refl refl refl refl (omega arith) (omega arith) (λ has. never ((mine (at Gone) e).holds has));
      seen_to = λ some. omega (arith, S.seen_to);
    }

    pub finds_a_ticket : thread_of s t ≡ at Looked → IsSound (go WakingAll)
    finds_a_ticket e = let w : Moves s.calls s.threads (set s.threads t (at WakingAll)) (at Looked) (at WakingAll) = here Looked WakingAll e in record {
      fair = to_bland Looked WakingAll e refl refl refl refl refl refl (omega arith) (omega arith) (λ has. never ((mine (at Looked) e).holds has));
      seen_to = λ some. omega (arith, S.seen_to);
    }

    pub goes_out : thread_of s t ≡ at WakingOne → IsFair (go Out)
    goes_out e = to_bland WakingOne Out e refl refl refl refl refl refl (omega arith) (omega arith) (λ has. never ((mine (at WakingOne) e).holds has))

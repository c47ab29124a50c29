-- Each step at the gate keeps it sound, and what is sound remembers its sleepers.
use Rattle.std.proofs.Common.{◌≡◌, ℕ, ◌+◌, ◌%◌, ◌<◌, ◌≤◌, ◌⊎◌, inl, inr, ◌==◌, if◌then◌else◌, Bool, true, false, cond, List, [], ◌∷◌, length, sym, subst, arith, refl}
use Rattle.std.proofs.lemmas.Bool.{cases_lt, eqb-true}
use Rattle.dc_sleepers.specs.declared.gate.TheConstants.{WRAP}
use Rattle.dc_sleepers.specs.declared.gate.Place.{Place}
use Rattle.dc_sleepers.specs.declared.gate.Place.TheVariants.{Out, Asking, Asked, Trying, Told, Counted, Asleep, Holding, Given, Leaving, Gone, Calling, Raised, Looked, WakingOne, WakingAll}
use Rattle.dc_sleepers.specs.declared.gate.Act.{Act}
use Rattle.dc_sleepers.specs.declared.gate.Act.TheVariants.{Come, ComeBare, ReadServed, ReadTickets, Try, Answer, AskAgain, Leave, Count, TakeTicket, ReadCalls, Wait, WakeUp, Give, CountOut, Serve, ReadSleepers, Raise, LookServed, LookTickets, Wake, WakeNobody, WakeAll}
use Rattle.dc_sleepers.specs.declared.gate.Event.{Event}
use Rattle.dc_sleepers.specs.declared.gate.Thread.{Thread}
use Rattle.dc_sleepers.specs.Gates.{State, idle, opening, thread_of, with_thread, moved, may_try, Begins, done, after, AllCan, after_all, is_asleep, sleeps_behind}
use Rattle.dc_sleepers.specs.GateLaw.{how_many, number, is_awake, awake_at, owes_a_call, can_go_on, Remembers, RestsAwake, IsInTime, AreInTime}
use Rattle.dc_sleepers.specs.GateSteps.{FitsAt, Does}
use Rattle.dc_sleepers.specs.GateLaw.{is_holding}
use Rattle.dc_sleepers.specs.GateSound.{raises_later, wakes_later, wakes_all, has_this_ticket, IsFine, IsSound}
use Rattle.dc_sleepers.proofs.Counts.{one, count_below, count_none}
use Rattle.dc_sleepers.proofs.Standing.{one_below, count_split, get_same}
use Rattle.dc_sleepers.proofs.GateNext.{never, seers, sleepers_seen_to}
use Rattle.dc_sleepers.proofs.GateFair.{bland}
use Rattle.dc_sleepers.proofs.GateSteps as quiet
use Rattle.dc_sleepers.proofs.GateWrites as writes
use Rattle.dc_sleepers.proofs.GateWakes as wakes

-- numbers that look the same and aren't too far apart
same_below : (a b : ℕ) → a % WRAP ≡ b % WRAP → b ≤ a → a < b + WRAP → b ≡ a
same_below a b e order near = omega arith

module _ (s : State) (t : ℕ) (inside : t < length s.threads) (S : IsSound s) where
  abbrev x : Thread
  x = thread_of s t

  stands : (p : Place) → x.place ≡ p → x ≡ record { place = p; is_counted = x.is_counted; seen = x.seen; has_ticket = x.has_ticket; ticket = x.ticket; next = x.next }
  stands p e i = record x { place = e i }

  tries : (b : Bool) → s.is_held ≡ b → x.place ≡ Trying → IsSound (if b then with_thread s t (moved x Told) else record (with_thread s t (moved x Holding)) { is_held = true })
  tries true held e = quiet.refused s t inside S x.is_counted x.seen x.has_ticket x.ticket x.next held (stands Trying e)
  tries false free e = writes.gets s t inside S x.is_counted x.seen x.has_ticket x.ticket x.next free (stands Trying e)

  waits : (b : Bool) → (s.calls % WRAP == x.seen % WRAP) ≡ b → x.place ≡ Told → x.is_counted ≡ true → s.calls < x.seen + WRAP → IsSound (with_thread s t (moved x (if b then Asleep else Counted)))
  waits true same e counted near = quiet.falls_asleep s t inside S x.is_counted x.seen x.has_ticket x.ticket x.next (same_below s.calls x.seen (eqb-true (s.calls % WRAP) (x.seen % WRAP) same) (S.fair.each t).behind near) counted (stands Told e)
  waits false other e counted near = quiet.returns_at_once s t inside S x.is_counted x.seen x.has_ticket x.ticket x.next (stands Told e)

  serves : (h : Bool) → x.has_ticket ≡ h → x.place ≡ Leaving → IsSound (record (with_thread s t (record x { place = Gone; has_ticket = false })) { served = s.served + (if h then 1 else 0) })
  serves true has e = writes.serves s t inside S x.is_counted x.seen x.has_ticket x.ticket x.next has (stands Leaving e)
  serves false none e = let zero : s.served ≡ s.served + 0 = omega arith in
      subst (λ n. IsSound (record (with_thread s t (record x { place = Gone; has_ticket = false })) { served = n })) zero (writes.serves_none s t inside S x.is_counted x.seen x.has_ticket x.ticket x.next none (stands Leaving e))

  reads : (b : Bool) → (s.sleepers == 0) ≡ b → x.place ≡ Gone → IsSound (with_thread s t (moved x (if b then Out else Calling)))
  reads true none e = wakes.finds_nobody s t inside S x.is_counted x.seen x.has_ticket x.ticket x.next (eqb-true s.sleepers 0 none) (stands Gone e)
  reads false some e = quiet.finds_sleepers s t inside S x.is_counted x.seen x.has_ticket x.ticket x.next (stands Gone e)

  looks : (b : Bool) → (s.tickets == x.next) ≡ b → x.place ≡ Looked → IsSound (with_thread s t (moved x (if b then WakingOne else WakingAll)))
  looks true none e = wakes.finds_no_ticket s t inside S x.is_counted x.seen x.has_ticket x.ticket x.next (eqb-true s.tickets x.next none) (stands Looked e)
  looks false some e = quiet.finds_a_ticket s t inside S x.is_counted x.seen x.has_ticket x.ticket x.next (stands Looked e)

  pub steps : (act : Act) → Begins s x act → IsInTime s x act → IsSound (done s t x act)
  steps Come e near = quiet.comes s t inside S x.is_counted x.seen x.has_ticket x.ticket x.next (stands Out e)
  steps ComeBare e near = quiet.comes_bare s t inside S x.is_counted x.seen x.has_ticket x.ticket x.next (stands Out e)
  steps ReadServed e near = quiet.reads_served s t inside S x.is_counted x.seen x.has_ticket x.ticket x.next (stands Asking e)
  steps ReadTickets e near = quiet.reads_tickets s t inside S x.is_counted x.seen x.has_ticket x.ticket x.next (may_try s.tickets x) refl (stands Asked e)
  steps Try e near = tries s.is_held refl e
  steps Answer e near = quiet.answers s t inside S x.is_counted x.seen x.has_ticket x.ticket x.next (stands Trying e)
  steps AskAgain e near = quiet.asks_again s t inside S x.is_counted x.seen x.has_ticket x.ticket x.next (stands Told e)
  steps Leave e near = quiet.leaves s t inside S x.is_counted x.seen x.has_ticket x.ticket x.next e.1 (stands Told e.0)
  steps Count e near = writes.is_counted_in s t inside S x.is_counted x.seen x.has_ticket x.ticket x.next (stands Told e)
  steps TakeTicket e near = writes.takes_ticket s t inside S x.is_counted x.seen x.has_ticket x.ticket x.next e.1.0 e.1.1 (stands Counted e.0)
  steps ReadCalls e near = quiet.reads_calls s t inside S x.is_counted x.seen x.has_ticket x.ticket x.next (stands Counted e)
  steps Wait e near = waits (s.calls % WRAP == x.seen % WRAP) refl e.0 e.1 near
  steps WakeUp e near = quiet.wakes_up s t inside S x.is_counted x.seen x.has_ticket x.ticket x.next (stands Asleep e)
  steps Give e near = writes.gives s t inside S x.is_counted x.seen x.has_ticket x.ticket x.next (stands Holding e)
  steps CountOut e near = writes.is_counted_out s t inside S x.is_counted x.seen x.has_ticket x.ticket x.next (stands Given e)
  steps Serve e near = serves x.has_ticket refl e
  steps ReadSleepers e near = reads (s.sleepers == 0) refl e
  steps Raise e near = wakes.raises s t inside S x.is_counted x.seen x.has_ticket x.ticket x.next (stands Calling e)
  steps LookServed e near = quiet.looks_served s t inside S x.is_counted x.seen x.has_ticket x.ticket x.next (stands Raised e)
  steps LookTickets e near = looks (s.tickets == x.next) refl e
  steps (Wake j) e near = wakes.wakes s t inside S x.is_counted x.seen x.has_ticket x.ticket x.next j e.0 (stands WakingOne e.1)
  steps WakeNobody e near = wakes.wakes_nobody s t inside S x.is_counted x.seen x.has_ticket x.ticket x.next e.0 (stands WakingOne e.1)
  steps WakeAll e near = wakes.wakes_all_of_them s t inside S x.is_counted x.seen x.has_ticket x.ticket x.next (stands WakingAll e)

-- a step that is done, or refused
pub acted : (s : State) (e : Event) (result : Bool) (new : State) → IsSound s → e.thread < length s.threads → Does s e.thread e.act result new → IsSound new
acted s e true new S inside does = let made : (Begins s (thread_of s e.thread) e.act × FitsAt s (thread_of s e.thread) e.act) × (new ≡ after s e) = does.made refl in subst IsSound (sym made.1) (steps s e.thread inside S e.act made.0.0 made.0.1.1)
acted s e false new S inside does = let same : (Begins s (thread_of s e.thread) e.act × FitsAt s (thread_of s e.thread) e.act → ⊥) × (new ≡ s) = does.refused refl in subst IsSound (sym same.1) S

pub runs_sound : (s : State) → IsSound s → (es : List Event) → AllCan s es → AreInTime s es → IsSound (after_all s es)
runs_sound s S [] can near = S
runs_sound s S (e ∷ es) can near = runs_sound (after s e) (steps s e.thread can.0.0 S e.act can.0.1 near.0) es can.1 near.1

-- no thread passes a test that an idle one fails
none : (threads : ℕ) (test : Thread → Bool) → test idle ≡ false → how_many (opening threads) test ≡ 0
none threads test fails = count_none test idle fails threads

pub opening_sound : (threads : ℕ) → IsSound (opening threads)
opening_sound threads = record {
  fair = record {
    counted = sym (none threads (λ x. x.is_counted) refl);
    holder = none threads (λ x. is_holding x.place) refl;
    order = omega arith;
    out = λ k a b. absurd (omega arith);
    was_served = λ k a. absurd (omega arith);
    not_taken = λ k a. none threads (has_this_ticket k) refl;
    each = λ t. subst (IsFine 0 0 0 (number (opening threads) raises_later) (number (opening threads) wakes_all)) (sym (get_same threads t idle))
        (bland 0 0 0 (number (opening threads) raises_later) (number (opening threads) wakes_all) idle refl refl refl refl refl (omega arith) (λ has. never has));
  };
  seen_to = λ some. absurd (omega (arith, none threads (sleeps_behind 0) refl));
}

by_kind : (p : Place) → one (raises_later p) ≤ one (is_holding p) + one (owes_a_call p)
by_kind Holding = omega arith
by_kind Given = omega arith
by_kind Leaving = omega arith
by_kind Gone = omega arith
by_kind Calling = omega arith
by_kind _ = omega arith

seen_by : (held : Bool) (calls awake : ℕ) → 0 < cond held 1 0 + (calls + awake) → (held ≡ true) ⊎ ((0 < calls) ⊎ (0 < awake))
seen_by true calls awake some = inl refl
seen_by false calls awake some = elim (cases_lt 0 calls) [ inl here ↦ inr (inl here) | inr gone ↦ inr (inr (omega arith)) ]

wakes_kind : (p : Place) → one (wakes_later p) ≤ one (owes_a_call p)
wakes_kind Raised = omega arith
wakes_kind Looked = omega arith
wakes_kind WakingOne = omega arith
wakes_kind WakingAll = omega arith
wakes_kind _ = omega arith

-- what sees to the sleepers, by the words of the law
seers_by : (s : State) → IsSound s → 0 < seers s → 0 < cond s.is_held 1 0 + (number s owes_a_call + how_many s (is_awake s.calls))
seers_by s S some =
    let raises : number s raises_later ≤ number s is_holding + number s owes_a_call = count_split (λ (x : Thread). raises_later x.place) (λ (x : Thread). is_holding x.place) (λ (x : Thread). owes_a_call x.place) (λ x. by_kind x.place) s.threads in
    let wakes : number s wakes_later ≤ number s owes_a_call = count_below (λ (x : Thread). wakes_later x.place) (λ (x : Thread). owes_a_call x.place) (λ x. wakes_kind x.place) s.threads in omega (arith, S.fair.holder)

pub remembers : (s : State) → IsSound s → Remembers s
remembers s S some = seen_by s.is_held (number s owes_a_call) (how_many s (is_awake s.calls)) (seers_by s S (sleepers_seen_to s S some))

holding_goes_on : (p : Place) → one (is_holding p) ≤ one (can_go_on p)
holding_goes_on Holding = omega arith
holding_goes_on _ = omega arith

calling_goes_on : (p : Place) → one (owes_a_call p) ≤ one (can_go_on p)
calling_goes_on Out = omega arith
calling_goes_on Asleep = omega arith
calling_goes_on p = one_below (owes_a_call p)

awake_goes_on : (p : Place) (counted same : Bool) → one (awake_at p counted same) ≤ one (can_go_on p)
awake_goes_on Out counted same = omega arith
awake_goes_on Asleep counted same = omega arith
awake_goes_on p counted same = one_below (awake_at p counted same)

pub rests_awake : (s : State) → IsSound s → RestsAwake s
rests_awake s S rest =
    let holding : number s is_holding ≤ number s can_go_on = count_below (λ (x : Thread). is_holding x.place) (λ (x : Thread). can_go_on x.place) (λ x. holding_goes_on x.place) s.threads in
    let calls : number s owes_a_call ≤ number s can_go_on = count_below (λ (x : Thread). owes_a_call x.place) (λ (x : Thread). can_go_on x.place) (λ x. calling_goes_on x.place) s.threads in
    let awake : how_many s (is_awake s.calls) ≤ number s can_go_on = count_below (is_awake s.calls) (λ (x : Thread). can_go_on x.place) (λ x. awake_goes_on x.place x.is_counted (x.seen == s.calls)) s.threads in
    elim (cases_lt 0 (number s is_asleep)) [ inl some ↦ absurd (omega (arith, seers_by s S (sleepers_seen_to s S some), S.fair.holder)) | inr gone ↦ omega arith ]

at_most_one : (held : Bool) (n : ℕ) → n ≡ cond held 1 0 → n ≤ 1
at_most_one true n e = omega arith
at_most_one false n e = omega arith

pub one_holder : (s : State) → IsSound s → number s is_holding ≤ 1
one_holder s S = at_most_one s.is_held (number s is_holding) S.fair.holder

-- Each step of the lock keeps it sound, and what is sound remembers its sleepers.
use Rattle.std.proofs.Common.{◌≡◌, ℕ, ◌+◌, ◌<◌, ◌≤◌, ◌⊎◌, inl, inr, ◌==◌, ◌&&◌, not, nat_lt, if◌then◌else◌, Bool, true, false, cond, List, [], ◌∷◌, length, get_or, sym, ap, ◌∙◌, subst, arith, refl}
use Rattle.std.proofs.lemmas.Bool.{cases_lt, ltb-true, eqb-true}
use Rattle.dc_sleepers.specs.declared.lock.Place.{Place}
use Rattle.dc_sleepers.specs.declared.lock.Place.TheVariants.{Out, Trying, Drawing, Counted, Choosing, Parking, Yielding, Asleep, Kept, Awake, Got, Serving, Served, Holding, Freed, Looking, Looked, WakingOne, WakingAll}
use Rattle.dc_sleepers.specs.declared.lock.Act.{Act}
use Rattle.dc_sleepers.specs.declared.lock.Act.TheVariants.{Come, TryOnce, Try, CountLate, Draw, CountIn, ReadDrawn, ReadServed, Insist, Park, Yield, WakeUp, WakeKeptUp, CountOut, CountLateOut, Serve, WakeKept, Give, Read, LookDrawn, LookServed, Wake, WakeNobody, WakeAll}
use Rattle.dc_sleepers.specs.declared.lock.Event.{Event}
use Rattle.dc_sleepers.specs.declared.lock.Thread.{Thread}
use Rattle.dc_sleepers.specs.Locks.{State, idle, opening, thread_of, with_thread, moved, Begins, done, after, AllCan, after_all, is_asleep, is_kept}
use Rattle.dc_sleepers.specs.LockSteps.{HasRoom, Does}
use Rattle.dc_sleepers.specs.LockLaw.{how_many, number, is_holding, owes_a_wake, wakes_all, wakes_all_at, owes_a_try, owes_a_try_at, is_late_and_tries, can_go_on, Remembers, RestsAwake}
use Rattle.dc_sleepers.specs.LockSound.{is_counted, is_late, is_from, is_late_asleep, is_behind, yields, has_limit, IsFine, IsSound}
use Rattle.dc_sleepers.proofs.Counts.{one, count_below, count_none}
use Rattle.dc_sleepers.proofs.Standing.{either, one_below, counts, found, get_same}
use Rattle.dc_sleepers.proofs.GateNext.{never}
use Rattle.dc_sleepers.proofs.LockFair.{bland}
use Rattle.dc_sleepers.proofs.LockNext.{both, if_not, next_sees, passing_busy}
use Rattle.dc_sleepers.proofs.LockSteps as quiet
use Rattle.dc_sleepers.proofs.LockWrites as writes
use Rattle.dc_sleepers.proofs.LockWakes as wakes

module _ (s : State) (t : ℕ) (inside : t < length s.threads) (S : IsSound s) where
  abbrev x : Thread
  x = thread_of s t

  stands : (p : Place) → x.place ≡ p → x ≡ record { place = p; has_slept = x.has_slept; has_ticket = x.has_ticket; ticket = x.ticket; limit = x.limit; seen = x.seen }
  stands p e i = record x { place = e i }

  tries_once : (b : Bool) → s.is_held ≡ b → x.place ≡ Out → IsSound (if b then with_thread s t (moved x Out) else record (with_thread s t (moved x Holding)) { is_held = true })
  tries_once true held e = quiet.stays_out s t inside S x.has_slept x.has_ticket x.ticket x.limit x.seen (stands Out e)
  tries_once false free e = quiet.gets_at_once s t inside S x.has_slept x.has_ticket x.ticket x.limit x.seen free (stands Out e)

  gets : (h : Bool) → x.has_ticket ≡ h → s.is_held ≡ false → x.place ≡ Trying → IsSound (record (with_thread s t (moved x (if h then Got else Holding))) { is_held = true })
  gets true has free e = quiet.gets_late s t inside S x.has_slept x.has_ticket x.ticket x.limit x.seen has free (stands Trying e)
  gets false none free e = quiet.gets s t inside S x.has_slept x.has_ticket x.ticket x.limit x.seen none free (stands Trying e)

  tries : (b : Bool) → s.is_held ≡ b → x.place ≡ Trying → IsSound (if b then with_thread s t (moved x Trying) else record (with_thread s t (moved x (if x.has_ticket then Got else Holding))) { is_held = true })
  tries true held e = quiet.tries_on s t inside S x.has_slept x.has_ticket x.ticket x.limit x.seen (stands Trying e)
  tries false free e = gets x.has_ticket refl free e

  reads_drawn : (h : Bool) → x.has_ticket ≡ h → x.place ≡ Counted → IsSound (with_thread s t (record x { place = Choosing; limit = if h then x.ticket else s.drawn }))
  reads_drawn true has e = let few : x.ticket < s.drawn = quiet.drawn_before s t inside S x.has_slept x.has_ticket x.ticket x.limit x.seen (stands Counted e) has in
      quiet.reads_drawn s t inside S x.has_slept x.has_ticket x.ticket x.limit x.seen x.ticket (omega arith) (λ _. refl) (stands Counted e)
  reads_drawn false none e = quiet.reads_drawn s t inside S x.has_slept x.has_ticket x.ticket x.limit x.seen s.drawn (omega arith) (λ has. never (sym none ∙ has)) (stands Counted e)

  reads_served : (b : Bool) → nat_lt s.served x.limit ≡ b → x.place ≡ Choosing → IsSound (with_thread s t (record x { place = if b then Yielding else Parking; seen = s.served }))
  reads_served true less e = quiet.yields_next s t inside S x.has_slept x.has_ticket x.ticket x.limit x.seen (ltb-true s.served x.limit less) (stands Choosing e)
  reads_served false more e = quiet.parks_next s t inside S x.has_slept x.has_ticket x.ticket x.limit x.seen (stands Choosing e)

  parks : (b : Bool) → s.is_held ≡ b → x.place ≡ Parking → IsSound (with_thread s t (moved x (if b then Asleep else Awake)))
  parks true held e = quiet.falls_asleep s t inside S x.has_slept x.has_ticket x.ticket x.limit x.seen held (stands Parking e)
  parks false free e = quiet.finds_it_free s t inside S x.has_slept x.has_ticket x.ticket x.limit x.seen (stands Parking e)

  goes_after : (b : Bool) → (x.seen == s.served) ≡ b → x.place ≡ Yielding → IsSound (with_thread s t (moved x (if b then Kept else Awake)))
  goes_after true same e = quiet.is_kept_off s t inside S x.has_slept x.has_ticket x.ticket x.limit x.seen (eqb-true x.seen s.served same) same (stands Yielding e)
  goes_after false other e = quiet.goes_on s t inside S x.has_slept x.has_ticket x.ticket x.limit x.seen (stands Yielding e)

  reads : (b : Bool) → (s.waiting == 0) ≡ b → x.place ≡ Freed → IsSound (with_thread s t (moved x (if b then Out else Looking)))
  reads true none e = writes.finds_nobody s t inside S x.has_slept x.has_ticket x.ticket x.limit x.seen (eqb-true s.waiting 0 none) (stands Freed e)
  reads false some e = quiet.finds_some s t inside S x.has_slept x.has_ticket x.ticket x.limit x.seen (stands Freed e)

  looks : (b : Bool) → (x.limit == s.served) ≡ b → x.place ≡ Looked → IsSound (with_thread s t (moved x (if b then WakingOne else WakingAll)))
  looks true same e = quiet.finds_no_ticket s t inside S x.has_slept x.has_ticket x.ticket x.limit x.seen same (stands Looked e)
  looks false other e = quiet.finds_a_ticket s t inside S x.has_slept x.has_ticket x.ticket x.limit x.seen (stands Looked e)

  pub steps : (act : Act) → Begins s x act → IsSound (done s t x act)
  steps Come e = quiet.comes s t inside S x.has_slept x.has_ticket x.ticket x.limit x.seen (stands Out e)
  steps TryOnce e = tries_once s.is_held refl e
  steps Try e = tries s.is_held refl e
  steps CountLate e = quiet.counts_late s t inside S x.has_slept x.has_ticket x.ticket x.limit x.seen e.1.0 e.1.1 (stands Trying e.0)
  steps Draw e = writes.draws s t inside S x.has_slept x.has_ticket x.ticket x.limit x.seen (stands Drawing e)
  steps CountIn e = quiet.counts_in s t inside S x.has_slept x.has_ticket x.ticket x.limit x.seen (stands Trying e)
  steps ReadDrawn e = reads_drawn x.has_ticket refl e
  steps ReadServed e = reads_served (nat_lt s.served x.limit) refl e
  steps Insist e = quiet.insists s t inside S x.has_slept x.has_ticket x.ticket x.limit x.seen (stands Choosing e.0)
  steps Park e = parks s.is_held refl e
  steps Yield e = goes_after (x.seen == s.served) refl e
  steps WakeUp e = quiet.wakes_up s t inside S x.has_slept x.has_ticket x.ticket x.limit x.seen (stands Asleep e)
  steps WakeKeptUp e = quiet.wakes_kept_up s t inside S x.has_slept x.has_ticket x.ticket x.limit x.seen (stands Kept e)
  steps CountOut e = quiet.counts_out s t inside S x.has_slept x.has_ticket x.ticket x.limit x.seen (stands Awake e)
  steps CountLateOut e = quiet.counts_late_out s t inside S x.has_slept x.has_ticket x.ticket x.limit x.seen (stands Got e)
  steps Serve e = writes.serves s t inside S x.has_slept x.has_ticket x.ticket x.limit x.seen (stands Serving e)
  steps WakeKept e = wakes.wakes_the_kept s t inside S x.has_slept x.has_ticket x.ticket x.limit x.seen (stands Served e)
  steps Give e = writes.gives s t inside S x.has_slept x.has_ticket x.ticket x.limit x.seen (stands Holding e)
  steps Read e = reads (s.waiting == 0) refl e
  steps LookDrawn e = writes.looks s t inside S x.has_slept x.has_ticket x.ticket x.limit x.seen (stands Looking e)
  steps LookServed e = looks (x.limit == s.served) refl e
  steps (Wake j) e = wakes.wakes s t inside S x.has_slept x.has_ticket x.ticket x.limit x.seen j e.0 (stands WakingOne e.1)
  steps WakeNobody e = wakes.wakes_nobody s t inside S x.has_slept x.has_ticket x.ticket x.limit x.seen e.0 (stands WakingOne e.1)
  steps WakeAll e = wakes.wakes_all_of_them s t inside S x.has_slept x.has_ticket x.ticket x.limit x.seen (stands WakingAll e)

-- a step that is done, or refused
pub acted : (s : State) (e : Event) (result : Bool) (new : State) → IsSound s → e.thread < length s.threads → Does s e.thread e.act result new → IsSound new
acted s e true new S inside does = let made : (Begins s (thread_of s e.thread) e.act × HasRoom s e.act) × (new ≡ after s e) = does.made refl in subst IsSound (sym made.1) (steps s e.thread inside S e.act made.0.0)
acted s e false new S inside does = let same : (Begins s (thread_of s e.thread) e.act × HasRoom s e.act → ⊥) × (new ≡ s) = does.refused refl in subst IsSound (sym same.1) S

pub runs_sound : (s : State) → IsSound s → (es : List Event) → AllCan s es → IsSound (after_all s es)
runs_sound s S [] can = S
runs_sound s S (e ∷ es) can = runs_sound (after s e) (steps s e.thread can.0.0 S e.act can.0.1) es can.1

-- if nobody wants the lock
none : (threads : ℕ) (test : Thread → Bool) → test idle ≡ false → how_many (opening threads) test ≡ 0
none threads test fails = count_none test idle fails threads

pub opening_sound : (threads : ℕ) → IsSound (opening threads)
opening_sound threads = record {
  fair = record {
    counted = omega (arith, none threads (λ x. is_counted x.place) refl, none threads is_late refl);
    holder = none threads (λ x. is_holding x.place) refl;
    out = omega (arith, none threads (λ x. x.has_ticket) refl);
    few = λ n. omega (arith, none threads (is_from n) refl);
    behind = λ some. absurd (omega (arith, none threads (is_behind 0) refl));
    each = λ t. subst (IsFine 0 0) (sym (get_same threads t idle)) (bland 0 0 idle refl refl refl refl (λ has. never has) (λ has. never has));
  };
  seen_to = λ some. absurd (omega (arith, none threads (λ x. is_asleep x.place) refl));
  all = λ some. absurd (omega (arith, none threads is_late_asleep refl));
}

seen_by : (held : Bool) (wakes tries : ℕ) → 0 < cond held 1 0 + (wakes + tries) → (held ≡ true) ⊎ ((0 < wakes) ⊎ (0 < tries))
seen_by true wakes tries some = inl refl
seen_by false wakes tries some = elim (cases_lt 0 wakes) [ inl here ↦ inr (inl here) | inr gone ↦ inr (inr (omega arith)) ]

kept_yields : (p : Place) → is_kept p ≡ true → (yields p ≡ true) × (has_limit p ≡ true)
kept_yields Kept e = (refl, refl)
kept_yields _ e = never e

woken_by : (s : State) → IsSound s → (s.is_held ≡ true) ⊎ ((0 < how_many s is_late_asleep) ⊎ (0 < how_many s (is_late_and_tries s.served))) → (s.is_held ≡ true) ⊎ ((0 < how_many s (wakes_all s.served)) ⊎ (0 < how_many s (is_late_and_tries s.served)))
woken_by s S who = elim who [
  | inl held ↦ inl held
  | inr rest ↦ elim rest [
    | inl sleeps ↦ elim (either s.is_held) [ inl held ↦ inl held | inr free ↦ let none_holds : one s.is_held ≡ 0 = ap one free in inr (inl (omega (arith, S.all sleeps, none_holds))) ]
    | inr tries ↦ inr (inr tries)
  ]
]

pub kept_seen_to : (s : State) → IsSound s → 0 < number s is_kept → (s.is_held ≡ true) ⊎ ((0 < how_many s (wakes_all s.served)) ⊎ (0 < how_many s (is_late_and_tries s.served)))
kept_seen_to s S some =
    let at : (i : ℕ) × ((i < length s.threads) × (is_kept (get_or s.threads i idle).place ≡ true)) = found (λ (y : Thread). is_kept y.place) idle s.threads some in
    let y = get_or s.threads at.0 idle in
    let G : IsFine s.served s.drawn y = S.fair.each at.0 in
    let yielding : (yields y.place ≡ true) × (has_limit y.place ≡ true) = kept_yields y.place at.1.1 in
    let most : y.limit ≤ s.drawn = G.known yielding.1 in
    elim (either (y.seen == s.served)) [
      | inl same ↦ woken_by s S (next_sees s S.fair (omega (arith, eqb-true y.seen s.served same, (G.kept yielding.0).1, most)))
      | inr other ↦ inl (passing_busy s S.fair (counts (is_behind s.served) s.threads at.0 idle at.1.0 (both (is_kept y.place) (not (y.seen == s.served)) at.1.1 (if_not (y.seen == s.served) other))))
    ]

pub remembers : (s : State) → IsSound s → Remembers s
remembers s S = record {
  asleep = λ some. seen_by s.is_held (number s owes_a_wake) (how_many s (owes_a_try s.served)) (S.seen_to some);
  kept = kept_seen_to s S;
}

holding_goes_on : (p : Place) → one (is_holding p) ≤ one (can_go_on p)
holding_goes_on Out = omega arith
holding_goes_on Asleep = omega arith
holding_goes_on Kept = omega arith
holding_goes_on p = one_below (is_holding p)

waking_goes_on : (p : Place) → one (owes_a_wake p) ≤ one (can_go_on p)
waking_goes_on Out = omega arith
waking_goes_on Asleep = omega arith
waking_goes_on Kept = omega arith
waking_goes_on p = one_below (owes_a_wake p)

all_goes_on : (p : Place) (same : Bool) → one (wakes_all_at p same) ≤ one (can_go_on p)
all_goes_on Out same = omega arith
all_goes_on Asleep same = omega arith
all_goes_on Kept same = omega arith
all_goes_on p same = one_below (wakes_all_at p same)

trying_goes_on : (p : Place) (slept same : Bool) → one (owes_a_try_at p slept same) ≤ one (can_go_on p)
trying_goes_on Out slept same = omega arith
trying_goes_on Asleep slept same = omega arith
trying_goes_on Kept slept same = omega arith
trying_goes_on p slept same = one_below (owes_a_try_at p slept same)

late_goes_on : (a : Bool) (p : Place) (slept same : Bool) → one (a && owes_a_try_at p slept same) ≤ one (can_go_on p)
late_goes_on true p slept same = trying_goes_on p slept same
late_goes_on false p slept same = omega arith

pub rests_awake : (s : State) → IsSound s → RestsAwake s
rests_awake s S rest =
    let holding : number s is_holding ≤ number s can_go_on = count_below (λ (x : Thread). is_holding x.place) (λ (x : Thread). can_go_on x.place) (λ x. holding_goes_on x.place) s.threads in
    let wakes : number s owes_a_wake ≤ number s can_go_on = count_below (λ (x : Thread). owes_a_wake x.place) (λ (x : Thread). can_go_on x.place) (λ x. waking_goes_on x.place) s.threads in
    let all : how_many s (wakes_all s.served) ≤ number s can_go_on = count_below (wakes_all s.served) (λ (x : Thread). can_go_on x.place) (λ x. all_goes_on x.place (x.limit == s.served)) s.threads in
    let tries : how_many s (owes_a_try s.served) ≤ number s can_go_on = count_below (owes_a_try s.served) (λ (x : Thread). can_go_on x.place) (λ x. trying_goes_on x.place x.has_slept (x.seen == s.served)) s.threads in
    let late : how_many s (is_late_and_tries s.served) ≤ number s can_go_on = count_below (is_late_and_tries s.served) (λ (x : Thread). can_go_on x.place) (λ x. late_goes_on x.has_ticket x.place x.has_slept (x.seen == s.served)) s.threads in
    let held : s.is_held ≡ true → ⊥ = λ h. let just : one s.is_held ≡ 1 = ap one h in omega (arith, S.fair.holder, holding, rest, just) in (
      elim (cases_lt 0 (number s is_asleep)) [ inl some ↦ absurd (omega (arith, S.seen_to some, S.fair.holder, holding, wakes, tries, rest)) | inr gone ↦ omega arith ],
      elim (cases_lt 0 (number s is_kept)) [
        | inl some ↦ elim (kept_seen_to s S some) [ inl h ↦ absurd (held h) | inr other ↦ elim other [ inl w ↦ absurd (omega (arith, w, all, rest)) | inr l ↦ absurd (omega (arith, l, late, rest)) ] ]
        | inr gone ↦ omega arith
      ],
    )

at_most_one : (held : Bool) (n : ℕ) → n ≡ cond held 1 0 → n ≤ 1
at_most_one true n e = omega arith
at_most_one false n e = omega arith

pub one_holder : (s : State) → IsSound s → number s is_holding ≤ 1
one_holder s S = at_most_one s.is_held (number s is_holding) S.fair.holder

-- Whoever has the next ticket sees to the sleepers.
use Rattle.std.proofs.Common.{◌≡◌, ℕ, ◌+◌, ◌<◌, ◌≤◌, ◌⊎◌, inl, inr, ◌==◌, ◌&&◌, not, Bool, true, false, length, get_or, sym, ap, ◌∙◌, arith, refl}
use Rattle.std.proofs.lemmas.Bool.{cases_lt, eqb-true, eqb-false, eq-eqb}
use Rattle.dc_sleepers.specs.declared.gate.Place.{Place}
use Rattle.dc_sleepers.specs.declared.gate.Place.TheVariants.{Asking, Asked, Trying, Told, Counted, Asleep, Holding, Given, Leaving, Raised, Looked, WakingAll}
use Rattle.dc_sleepers.specs.declared.gate.Thread.{Thread}
use Rattle.dc_sleepers.specs.Gates.{State, idle, thread_of, is_asleep, sleeps_behind}
use Rattle.dc_sleepers.specs.GateLaw.{how_many, number, is_awake}
use Rattle.dc_sleepers.specs.GateSound.{raises_later, wakes_later, wakes_all, has_this_ticket, IsFine, IsFair, IsSound}
use Rattle.dc_sleepers.proofs.Counts.{one, count_below, within}
use Rattle.dc_sleepers.proofs.Standing.{either, counts, found}

pub never : {A : Type 0} → false ≡ true → A
never e = absurd (cc)

-- a thread that has a ticket stands in the list
pub has_place : (s : State) (t : ℕ) → (thread_of s t).has_ticket ≡ true → t < length s.threads
has_place s t has = within s.threads t idle (thread_of s t) refl (λ same. never (sym (ap (λ (x : Thread). x.has_ticket) same) ∙ has))

pub this_ticket : (has : Bool) (n k : ℕ) → has ≡ true → n ≡ k → (has && (n == k)) ≡ true
this_ticket true n k has e = eq-eqb n k e
this_ticket false n k has e = never has

pub its_ticket : (has : Bool) (n k : ℕ) → (has && (n == k)) ≡ true → (has ≡ true) × (n ≡ k)
its_ticket true n k e = (refl, eqb-true n k e)
its_ticket false n k e = never e

-- its ticket is out
pub in_range : (s : State) → IsFair s → (t : ℕ) → (thread_of s t).has_ticket ≡ true → (s.served ≤ (thread_of s t).ticket) × ((thread_of s t).ticket < s.tickets)
in_range s F t has = let k = (thread_of s t).ticket in
    let some : 0 < how_many s (has_this_ticket k) = counts (has_this_ticket k) s.threads t idle (has_place s t has) (this_ticket (thread_of s t).has_ticket k k has refl) in
    elim (cases_lt k s.served) [ inl before ↦ absurd (omega (arith, F.was_served k before, some)) | inr late ↦ elim (cases_lt k s.tickets) [ inl here ↦ (late, here) | inr past ↦ absurd (omega (arith, F.not_taken k past, some)) ] ]

pub awake_told : (counted same : Bool) → counted ≡ true → same ≡ false → (counted && not same) ≡ true
awake_told true false a b = refl
awake_told true true a b = never (sym b)
awake_told false same a b = never a

-- who it is that sees to them: somebody who calls later, or wakes all later, or this thread
abbrev By : (raisers wakers calls : ℕ) → Thread → Type 0
By raisers wakers calls x = (0 < raisers) ⊎ ((0 < wakers) ⊎ ((raises_later x.place ≡ true) ⊎ (is_awake calls x ≡ true)))

module _ (calls served tickets raisers wakers : ℕ) where
  abbrev this : Place → Bool → ℕ → Bool → ℕ → ℕ → Thread
  this p c n h k r = record { place = p; is_counted = c; seen = n; has_ticket = h; ticket = k; next = r }

  by_whom : (p : Place) (c : Bool) (n : ℕ) (h : Bool) (k r : ℕ) → IsFine calls served tickets raisers wakers (this p c n h k r) → h ≡ true → k ≡ served → By raisers wakers calls (this p c n h k r)
  by_whom Counted c n h k r F has e = inr (inr (inr (F.holds has)))
  by_whom Asking c n h k r F has e = inr (inr (inr (F.holds has)))
  by_whom Asked c n h k r F has e = inr (inr (inr (F.holds has)))
  by_whom Trying c n h k r F has e = inr (inr (inr (F.holds has)))
  by_whom Told c n h k r F has e = elim (either (n == calls)) [
    | inl same ↦ elim (cases_lt 0 raisers) [ inl here ↦ inl here | inr none ↦ absurd ((F.expects (F.holds has) refl (eqb-true n calls same) (omega arith)).1 has e) ]
    | inr other ↦ inr (inr (inr (awake_told c (n == calls) (F.holds has) other)))
  ]
  by_whom Asleep c n h k r F has e = elim (either (n == calls)) [
    | inl same ↦ elim (cases_lt 0 raisers) [ inl here ↦ inl here | inr none ↦ absurd ((F.expects (F.holds has) refl (eqb-true n calls same) (omega arith)).1 has e) ]
    | inr other ↦ inr (inl (F.called has refl (eqb-false n calls other)))
  ]
  by_whom Holding c n h k r F has e = inr (inr (inl refl))
  by_whom Given c n h k r F has e = inr (inr (inl refl))
  by_whom Leaving c n h k r F has e = inr (inr (inl refl))
  by_whom _ c n h k r F has e = never (F.holds has)

wakes_all_wakes : (p : Place) → one (wakes_all p) ≤ one (wakes_later p)
wakes_all_wakes Raised = omega arith
wakes_all_wakes Looked = omega arith
wakes_all_wakes WakingAll = omega arith
wakes_all_wakes _ = omega arith

abbrev pub seers : State → ℕ
seers s = number s raises_later + (number s wakes_later + how_many s (is_awake s.calls))

-- while a ticket is out
pub next_sees : (s : State) → IsFair s → s.served < s.tickets → 0 < seers s
next_sees s F out =
    let at : (i : ℕ) × ((i < length s.threads) × (has_this_ticket s.served (get_or s.threads i idle) ≡ true)) = found (has_this_ticket s.served) idle s.threads (omega (arith, F.out s.served (omega arith) out)) in
    let x = get_or s.threads at.0 idle in
    let its : (x.has_ticket ≡ true) × (x.ticket ≡ s.served) = its_ticket x.has_ticket x.ticket s.served at.1.1 in
    let few : number s wakes_all ≤ number s wakes_later = count_below (λ (y : Thread). wakes_all y.place) (λ (y : Thread). wakes_later y.place) (λ y. wakes_all_wakes y.place) s.threads in
    let who : By (number s raises_later) (number s wakes_all) s.calls x = by_whom s.calls s.served s.tickets (number s raises_later) (number s wakes_all) x.place x.is_counted x.seen x.has_ticket x.ticket x.next (F.each at.0) its.0 its.1 in
    elim who [
      | inl calls ↦ omega arith
      | inr rest ↦ elim rest [
        | inl wakes ↦ omega arith
        | inr it ↦ elim it [
          | inl calls ↦ let here : 0 < number s raises_later = counts (λ (y : Thread). raises_later y.place) s.threads at.0 idle at.1.0 calls in omega arith
          | inr awake ↦ let here : 0 < how_many s (is_awake s.calls) = counts (is_awake s.calls) s.threads at.0 idle at.1.0 awake in omega arith
        ]
      ]
    ]

-- one that sleeps and has read all calls is seen to
pub settled_sees : (s : State) → IsFair s → (t : ℕ) → (thread_of s t).is_counted ≡ true → (thread_of s t).seen ≡ s.calls → Rattle.dc_sleepers.specs.GateSound.settles (thread_of s t).place ≡ true → 0 < seers s
settled_sees s F t counted same rests = elim (cases_lt 0 (number s raises_later)) [ inl here ↦ omega arith | inr none ↦ next_sees s F ((F.each t).expects counted rests same (omega arith)).0 ]

behind_is : (p : Place) (same : Bool) → is_asleep p ≡ true → same ≡ false → (is_asleep p && not same) ≡ true
behind_is p true a b = never (sym b)
behind_is Asleep false a b = refl
behind_is _ false a b = never a

sleeper_settles : (p : Place) → is_asleep p ≡ true → Rattle.dc_sleepers.specs.GateSound.settles p ≡ true
sleeper_settles Asleep e = refl
sleeper_settles _ e = never e

pub sleepers_seen_to : (s : State) → IsSound s → 0 < number s is_asleep → 0 < seers s
sleepers_seen_to s S some =
    let at : (i : ℕ) × ((i < length s.threads) × (is_asleep (get_or s.threads i idle).place ≡ true)) = found (λ (y : Thread). is_asleep y.place) idle s.threads some in
    let x = get_or s.threads at.0 idle in
    elim (either (x.seen == s.calls)) [
      | inl same ↦ settled_sees s S.fair at.0 ((S.fair.each at.0).sleeps at.1.1) (eqb-true x.seen s.calls same) (sleeper_settles x.place at.1.1)
      | inr other ↦ S.seen_to (counts (sleeps_behind s.calls) s.threads at.0 idle at.1.0 (behind_is x.place (x.seen == s.calls) at.1.1 other))
    ]

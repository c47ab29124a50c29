-- Whoever has the least ticket sees to the sleepers.
use Rattle.std.proofs.Common.{◌≡◌, ℕ, ◌+◌, ◌<◌, ◌≤◌, ◌⊎◌, inl, inr, ◌==◌, ◌&&◌, not, leb, Bool, true, false, cond, length, get_or, sym, ap, ◌∙◌, arith, refl}
use Rattle.std.proofs.lemmas.Bool.{eqb-true, leb-false, le-leb}
use Rattle.dc_sleepers.specs.declared.lock.Place.{Place}
use Rattle.dc_sleepers.specs.declared.lock.Place.TheVariants.{Trying, Counted, Choosing, Parking, Yielding, Asleep, Kept, Awake, Got, Serving, Served, Freed, Looking, Looked, WakingAll}
use Rattle.dc_sleepers.specs.declared.lock.Thread.{Thread}
use Rattle.dc_sleepers.specs.Locks.{State, idle, thread_of}
use Rattle.dc_sleepers.specs.LockLaw.{how_many, number, is_holding, owes_a_wake, wakes_all, wakes_all_at, owes_a_try, is_late_and_tries}
use Rattle.dc_sleepers.specs.LockSound.{is_passing, yields, is_from, is_late_asleep, is_behind, IsFine, IsFair, IsSound}
use Rattle.dc_sleepers.proofs.Counts.{one, count_below, within}
use Rattle.dc_sleepers.proofs.Standing.{either, one_below, counts, found, count_split}
use Rattle.dc_sleepers.proofs.GateNext.{never}
use Rattle.dc_sleepers.proofs.LockFair.{is_busy}

pub both : (a b : Bool) → a ≡ true → b ≡ true → (a && b) ≡ true
both true b e f = f
both false b e f = never e

pub and_left : (a b : Bool) → (a && b) ≡ true → a ≡ true
and_left true b e = refl
and_left false b e = never e

pub and_right : (a b : Bool) → (a && b) ≡ true → b ≡ true
and_right true b e = e
and_right false b e = never e

not_true : (b : Bool) → not b ≡ true → b ≡ false
not_true true e = never e
not_true false e = refl

pub if_not : (b : Bool) → b ≡ false → not b ≡ true
if_not true e = never (sym e)
if_not false e = refl

-- a thread that has a ticket stands in the list
pub stands_there : (s : State) (t : ℕ) → (thread_of s t).has_ticket ≡ true → t < length s.threads
stands_there s t has = within s.threads t idle (thread_of s t) refl (λ same. never (sym (ap (λ (x : Thread). x.has_ticket) same) ∙ has))

-- its ticket was drawn
pub was_drawn : (s : State) → IsFair s → (t : ℕ) → (thread_of s t).has_ticket ≡ true → (thread_of s t).ticket < s.drawn
was_drawn s F t has = let x = thread_of s t in
    let some : 0 < how_many s (is_from x.ticket) = counts (is_from x.ticket) s.threads t idle (stands_there s t has) (both x.has_ticket (leb x.ticket x.ticket) has (le-leb x.ticket x.ticket (omega arith))) in omega (arith, F.few x.ticket, some)

-- a ticket up to this one
abbrev is_upto : ℕ → Thread → Bool
is_upto n x = x.has_ticket && not (leb (n + 1) x.ticket)

split : (n : ℕ) (x : Thread) → one x.has_ticket ≤ one (is_from (n + 1) x) + one (is_upto n x)
split n x = by_case x.has_ticket (leb (n + 1) x.ticket) where
  by_case : (h b : Bool) → one h ≤ one (h && b) + one (h && not b)
  by_case true true = omega arith
  by_case true false = omega arith
  by_case false b = omega arith

-- who it is that sees to them: the one that holds the lock, one that was served, or this thread
abbrev By : State → Thread → Type 0
By s x = (is_holding x.place ≡ true) ⊎ ((is_behind s.served x ≡ true) ⊎ ((is_late_asleep x ≡ true) ⊎ (is_late_and_tries s.served x ≡ true)))

module _ (s : State) (l h : Bool) (k m n : ℕ) where
  abbrev this : Place → Thread
  this p = record { place = p; has_slept = l; has_ticket = h; ticket = k; limit = m; seen = n }

  -- it has read that fewer were served
  fewer : (p : Place) → IsFine s.served s.drawn (this p) → yields p ≡ true → Rattle.dc_sleepers.specs.LockSound.has_limit p ≡ true → h ≡ true → k ≤ s.served → not (n == s.served) ≡ true
  fewer p F yielding limited has first = if_not (n == s.served) (elim (either (n == s.served)) [
    | inl same ↦ absurd (omega (arith, eqb-true n s.served same, (F.kept yielding).1, F.own limited has, first))
    | inr other ↦ other
  ])

  by_whom : (p : Place) → IsFine s.served s.drawn (this p) → h ≡ true → k ≤ s.served → By s (this p)
  by_whom Trying F has first = inr (inr (inr (both h l has (F.slept has))))
  by_whom Counted F has first = inr (inr (inr (both h l has (F.slept has))))
  by_whom Choosing F has first = inr (inr (inr (both h l has (F.slept has))))
  by_whom Parking F has first = inr (inr (inr (both h l has (F.slept has))))
  by_whom Yielding F has first = inr (inr (inr (both h (l && not (n == s.served)) has (both l (not (n == s.served)) (F.slept has) (fewer Yielding F refl refl has first)))))
  by_whom Asleep F has first = inr (inr (inl has))
  by_whom Kept F has first = inr (inl (fewer Kept F refl refl has first))
  by_whom Awake F has first = inr (inr (inr (both h true has refl)))
  by_whom Got F has first = inl refl
  by_whom Serving F has first = inl refl
  by_whom _ F has first = never (F.holds has)

passing_holds : (p : Place) → one (is_passing p) ≤ one (is_holding p)
passing_holds Served = omega arith
passing_holds _ = omega arith

-- one that was served holds the lock still
pub passing_busy : (s : State) → IsFair s → 0 < how_many s (is_behind s.served) → s.is_held ≡ true
passing_busy s F some = let few : number s is_passing ≤ number s is_holding = count_below (λ (y : Thread). is_passing y.place) (λ (y : Thread). is_holding y.place) (λ y. passing_holds y.place) s.threads in
    is_busy s F (omega (arith, F.behind some, few))

-- while a ticket is out
pub next_sees : (s : State) → IsFair s → s.served < s.drawn → (s.is_held ≡ true) ⊎ ((0 < how_many s is_late_asleep) ⊎ (0 < how_many s (is_late_and_tries s.served)))
next_sees s F out =
    let parts : how_many s (λ (x : Thread). x.has_ticket) ≤ how_many s (is_from (s.served + 1)) + how_many s (is_upto s.served) = count_split (λ (x : Thread). x.has_ticket) (is_from (s.served + 1)) (is_upto s.served) (split s.served) s.threads in
    let at : (i : ℕ) × ((i < length s.threads) × (is_upto s.served (get_or s.threads i idle) ≡ true)) = found (is_upto s.served) idle s.threads (omega (arith, F.out, F.few (s.served + 1), parts, out)) in
    let x = get_or s.threads at.0 idle in
    let has : x.has_ticket ≡ true = and_left x.has_ticket (not (leb (s.served + 1) x.ticket)) at.1.1 in
    let late : x.ticket < s.served + 1 = leb-false (s.served + 1) x.ticket (not_true (leb (s.served + 1) x.ticket) (and_right x.has_ticket (not (leb (s.served + 1) x.ticket)) at.1.1)) in
    let who : By s x = by_whom s x.has_slept x.has_ticket x.ticket x.limit x.seen x.place (F.each at.0) has (omega (arith, late)) in
    elim who [
      | inl holds ↦ inl (is_busy s F (counts (λ (y : Thread). is_holding y.place) s.threads at.0 idle at.1.0 holds))
      | inr rest ↦ elim rest [
        | inl behind ↦ inl (passing_busy s F (counts (is_behind s.served) s.threads at.0 idle at.1.0 behind))
        | inr it ↦ elim it [
          | inl sleeps ↦ inr (inl (counts is_late_asleep s.threads at.0 idle at.1.0 sleeps))
          | inr tries ↦ inr (inr (counts (is_late_and_tries s.served) s.threads at.0 idle at.1.0 tries))
        ]
      ]
    ]

all_wake : (p : Place) (same : Bool) → one (wakes_all_at p same) ≤ one (owes_a_wake p)
all_wake Freed same = omega arith
all_wake Looking same = omega arith
all_wake Looked same = one_below (not same)
all_wake WakingAll same = omega arith
all_wake _ same = omega arith

-- then the sleepers of the lock are seen to as well
pub seen_by_next : (s : State) → IsFair s → (0 < how_many s is_late_asleep → 0 < cond s.is_held 1 0 + how_many s (wakes_all s.served)) → s.served < s.drawn → 0 < cond s.is_held 1 0 + (number s owes_a_wake + how_many s (owes_a_try s.served))
seen_by_next s F all out =
    let wakes : how_many s (wakes_all s.served) ≤ number s owes_a_wake = count_below (wakes_all s.served) (λ (y : Thread). owes_a_wake y.place) (λ y. all_wake y.place (y.limit == s.served)) s.threads in
    let tries : how_many s (is_late_and_tries s.served) ≤ how_many s (owes_a_try s.served) = count_below (is_late_and_tries s.served) (owes_a_try s.served) (λ y. one_and_right y.has_ticket (owes_a_try s.served y)) s.threads in
    elim (next_sees s F out) [
      | inl held ↦ let just : one s.is_held ≡ 1 = ap one held in omega (arith, just)
      | inr rest ↦ elim rest [
        | inl sleeps ↦ omega (arith, all sleeps, wakes)
        | inr late ↦ omega (arith, late, tries)
      ]
    ]
  where
    one_and_right : (a b : Bool) → one (a && b) ≤ one b
    one_and_right true b = omega arith
    one_and_right false b = omega arith

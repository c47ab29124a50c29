-- A step at the lock changes its own thread by what it reads, and wakes others.
use Rattle.std.proofs.Common.{◌≡◌, ◌≢◌, ℕ, ◌<◌, inl, inr, ◌==◌, if◌then◌else◌, Bool, true, false, cond, length, map, get_or, set, get_or-set_same, get_or-set_other, sym, ap, ◌∙◌, subst, arith, refl}
use Rattle.std.proofs.Math.ListN.{get_or-map}
use Rattle.std.proofs.lemmas.Bool.{cases_eq}
use Rattle.std.proofs.lemmas.List.{length-set}
use Rattle.dc_sleepers.specs.declared.lock.Place.TheVariants.{Out, Trying, Asleep, Awake, Got, Holding, WakingOne}
use Rattle.dc_sleepers.specs.declared.lock.Act.{Act}
use Rattle.dc_sleepers.specs.declared.lock.Act.TheVariants.{Come, TryOnce, Try, CountLate, Draw, CountIn, ReadDrawn, ReadServed, Insist, Park, Yield, WakeUp, WakeKeptUp, CountOut, CountLateOut, Serve, WakeKept, Give, Read, LookDrawn, LookServed, Wake, WakeNobody, WakeAll}
use Rattle.dc_sleepers.specs.declared.lock.Thread.{Thread}
use Rattle.dc_sleepers.specs.Locks.{State, idle, thread_of, with_thread, moved, roused, roused_all, is_asleep, is_kept, Begins, done}
use Rattle.dc_sleepers.specs.LockThreads.{May, SleepsOn, read, next}
use Rattle.dc_sleepers.proofs.Counts.{within}
use Rattle.dc_sleepers.proofs.LockWakes.{asleep_wakes_not, asleep_out}

pub may : (s : State) (t : ℕ) (act : Act) → Begins s (thread_of s t) act → May (thread_of s t) act
may s t (Wake sleeper) e = e.1
may s t WakeNobody e = e.1
may s t _ e = e

-- whoever is woken isn't the one that wakes it
apart : (s : State) (t sleeper : ℕ) → (thread_of s sleeper).place ≡ Asleep → (thread_of s t).place ≡ WakingOne → t ≢ sleeper
apart s t sleeper sleeps wakes = λ same. asleep_wakes_not (sym sleeps ∙ ap (λ i. (thread_of s i).place) (sym same) ∙ wakes)

module _ (s : State) (t : ℕ) (inside : t < length s.threads) where
  abbrev x : Thread
  x = thread_of s t

  put : (y : Thread) → thread_of (with_thread s t y) t ≡ y
  put y = get_or-set_same s.threads t y idle inside

  all_but : (test : _ → Bool) → (y : Thread) → roused test idle ≡ idle → roused test y ≡ y → thread_of (roused_all test (with_thread s t y)) t ≡ y
  all_but test y idles wakes = ap (λ (d : Thread). get_or (map (roused test) (set s.threads t y)) t d) (sym idles) ∙ get_or-map (roused test) (set s.threads t y) t idle ∙ ap (roused test) (put y) ∙ wakes

  tries_once : (b : Bool) → thread_of (if b then with_thread s t (moved x Out) else record (with_thread s t (moved x Holding)) { is_held = true }) t ≡ moved x (if cond b 1 0 == 0 then Holding else Out)
  tries_once true = put (moved x Out)
  tries_once false = put (moved x Holding)

  tries : (b : Bool) → thread_of (if b then with_thread s t (moved x Trying) else record (with_thread s t (moved x (if x.has_ticket then Got else Holding))) { is_held = true }) t
      ≡ moved x (if cond b 1 0 == 0 then (if x.has_ticket then Got else Holding) else Trying)
  tries true = put (moved x Trying)
  tries false = put (moved x (if x.has_ticket then Got else Holding))

  parks : (b : Bool) → thread_of (with_thread s t (moved x (if b then Asleep else Awake))) t ≡ moved x (if cond b 1 0 == 0 then Awake else Asleep)
  parks true = put (moved x Asleep)
  parks false = put (moved x Awake)

  pub own : (act : Act) → Begins s x act → thread_of (done s t x act) t ≡ next (read s act) x act
  own TryOnce e = tries_once s.is_held
  own Try e = tries s.is_held
  own Park e = parks s.is_held
  own WakeKept e = all_but is_kept (moved x Holding) refl refl
  own WakeAll e = all_but is_asleep (moved x Out) refl refl
  own (Wake sleeper) e = get_or-set_other (set s.threads t (moved x Out)) sleeper t _ idle (apart s t sleeper e.0 e.1) ∙ put (moved x Out)
  own Come e = put _
  own CountLate e = put _
  own Draw e = put _
  own CountIn e = put _
  own ReadDrawn e = put _
  own ReadServed e = put _
  own Insist e = put _
  own Yield e = put _
  own WakeUp e = put _
  own WakeKeptUp e = put _
  own CountOut e = put _
  own CountLateOut e = put _
  own Serve e = put _
  own Give e = put _
  own Read e = put _
  own LookDrawn e = put _
  own LookServed e = put _
  own WakeNobody e = put _

module _ (s : State) (t u : ℕ) (other : u ≢ t) where
  abbrev mine : Thread
  mine = thread_of s t

  kept_as : (y : Thread) → thread_of (with_thread s t y) u ≡ thread_of s u
  kept_as y = get_or-set_other s.threads t u y idle other

  stays : (y : Thread) → SleepsOn (thread_of s u) (thread_of (with_thread s t y) u)
  stays y = inl (kept_as y)

  stays_if : (b : Bool) (y z : Thread) → SleepsOn (thread_of s u) (thread_of (if b then with_thread s t y else record (with_thread s t z) { is_held = true }) u)
  stays_if true y z = stays y
  stays_if false y z = stays z

  all_in : (test : _ → Bool) → (y : Thread) → roused test idle ≡ idle → thread_of (roused_all test (with_thread s t y)) u ≡ roused test (thread_of s u)
  all_in test y idles = ap (λ (d : Thread). get_or (map (roused test) (set s.threads t y)) u d) (sym idles) ∙ get_or-map (roused test) (set s.threads t y) u idle ∙ ap (roused test) (kept_as y)

  if_asleep : (b : Bool) → is_asleep (thread_of s u).place ≡ b → SleepsOn (thread_of s u) (if b then moved (thread_of s u) Awake else thread_of s u)
  if_asleep true e = inr (inl e, refl)
  if_asleep false e = inl refl

  if_kept : (b : Bool) → is_kept (thread_of s u).place ≡ b → SleepsOn (thread_of s u) (if b then moved (thread_of s u) Awake else thread_of s u)
  if_kept true e = inr (inr e, refl)
  if_kept false e = inl refl

  one_in : (sleeper : ℕ) → (thread_of s sleeper).place ≡ Asleep → t ≢ sleeper → SleepsOn (thread_of s u) (thread_of (done s t mine (Wake sleeper)) u)
  one_in sleeper sleeps apart = let xs = set s.threads t (moved mine Out) in let z = moved (thread_of (with_thread s t (moved mine Out)) sleeper) Awake in elim (cases_eq u sleeper) [
    | inl same ↦ let there : sleeper < length s.threads = within s.threads sleeper idle (thread_of s sleeper) refl (λ e. asleep_out (sym sleeps ∙ ap (λ (y : Thread). y.place) e)) in
        let woken : thread_of (done s t mine (Wake sleeper)) u ≡ moved (thread_of s u) Awake = ap (λ i. get_or (set xs sleeper z) i idle) same ∙ get_or-set_same xs sleeper z idle (omega (arith, length-set s.threads t (moved mine Out), there))
        ∙ ap (λ y. moved y Awake) (get_or-set_other s.threads t sleeper (moved mine Out) idle (λ e. apart (sym e))) ∙ ap (λ i. moved (thread_of s i) Awake) (sym same) in
        inr (inl (ap (λ i. is_asleep (thread_of s i).place) same ∙ ap is_asleep sleeps), woken)
    | inr differs ↦ inl (get_or-set_other xs sleeper u z idle differs ∙ kept_as (moved mine Out))
  ]

  pub others : (act : Act) → Begins s mine act → SleepsOn (thread_of s u) (thread_of (done s t mine act) u)
  others TryOnce e = stays_if s.is_held _ _
  others Try e = stays_if s.is_held _ _
  others WakeKept e = subst (SleepsOn (thread_of s u)) (sym (all_in is_kept (moved mine Holding) refl)) (if_kept (is_kept (thread_of s u).place) refl)
  others WakeAll e = subst (SleepsOn (thread_of s u)) (sym (all_in is_asleep (moved mine Out) refl)) (if_asleep (is_asleep (thread_of s u).place) refl)
  others (Wake sleeper) e = one_in sleeper e.0 (apart s t sleeper e.0 e.1)
  others Come e = stays _
  others CountLate e = stays _
  others Draw e = stays _
  others CountIn e = stays _
  others ReadDrawn e = stays _
  others ReadServed e = stays _
  others Insist e = stays _
  others Park e = stays _
  others Yield e = stays _
  others WakeUp e = stays _
  others WakeKeptUp e = stays _
  others CountOut e = stays _
  others CountLateOut e = stays _
  others Serve e = stays _
  others Give e = stays _
  others Read e = stays _
  others LookDrawn e = stays _
  others LookServed e = stays _
  others WakeNobody e = stays _

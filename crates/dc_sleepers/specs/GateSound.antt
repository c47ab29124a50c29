-- What each step at the gate keeps.
use Rattle.std.specs.Prelude.{◌≡◌, ◌≢◌, ℕ, ◌+◌, ◌<◌, ◌≤◌, ◌==◌, ◌&&◌, Bool, true, false, cond}
use Rattle.dc_sleepers.specs.declared.gate.Place.{Place}
use Rattle.dc_sleepers.specs.declared.gate.Place.TheVariants.{Asking, Asked, Trying, Told, Counted, Asleep, Holding, Given, Leaving, Gone, Calling, Raised, Looked, WakingOne, WakingAll}
use Rattle.dc_sleepers.specs.declared.gate.Thread.{Thread}
use Rattle.dc_sleepers.specs.Gates.{State, thread_of, is_asleep, sleeps_behind}
use Rattle.dc_sleepers.specs.GateLaw.{how_many, number, is_awake, is_holding}

-- it will read the sleepers, or has, and then raises the calls
abbrev pub raises_later : Place → Bool
raises_later Holding = true
raises_later Given = true
raises_later Leaving = true
raises_later Gone = true
raises_later Calling = true
raises_later _ = false

-- it has raised them, and wakes still
abbrev pub wakes_later : Place → Bool
wakes_later Raised = true
wakes_later Looked = true
wakes_later WakingOne = true
wakes_later WakingAll = true
wakes_later _ = false

-- and wakes all, if a ticket was out before it raised them
abbrev pub wakes_all : Place → Bool
wakes_all Raised = true
wakes_all Looked = true
wakes_all WakingAll = true
wakes_all _ = false

-- a thread with a ticket is counted until its call is over, and has the ticket until that is served
abbrev pub may_have_ticket : Place → Bool → Bool
may_have_ticket Counted counted = counted
may_have_ticket Asking counted = counted
may_have_ticket Asked counted = counted
may_have_ticket Trying counted = counted
may_have_ticket Told counted = counted
may_have_ticket Asleep counted = counted
may_have_ticket Holding counted = true
may_have_ticket Given counted = true
may_have_ticket Leaving counted = true
may_have_ticket _ counted = false

-- it tries, or has done so
abbrev pub has_its_turn : Place → Bool
has_its_turn Trying = true
has_its_turn Holding = true
has_its_turn Given = true
has_its_turn Leaving = true
has_its_turn _ = false

abbrev pub is_asked : Place → Bool
is_asked Asked = true
is_asked _ = false

abbrev pub has_read_served : Place → Bool
has_read_served Asked = true
has_read_served Looked = true
has_read_served _ = false

-- it sleeps, or waits next
abbrev pub settles : Place → Bool
settles Told = true
settles Asleep = true
settles _ = false

abbrev pub has_this_ticket : ℕ → Thread → Bool
has_this_ticket k x = x.has_ticket && (x.ticket == k)

-- what is so of each thread, if this many threads raise the calls later, and this many wake all later
pub record IsFine (calls served tickets raisers wakers : ℕ) (x : Thread) : Type 0 where
  pub behind : x.seen ≤ calls
  pub sleeps : is_asleep x.place ≡ true → x.is_counted ≡ true
  pub holds : x.has_ticket ≡ true → may_have_ticket x.place x.is_counted ≡ true
  pub turn : x.has_ticket ≡ true → has_its_turn x.place ≡ true → x.ticket ≡ served
  pub next_is : has_read_served x.place ≡ true → x.next ≤ served
  -- if a ticket was served since it looked, whoever had that calls later
  pub stale : x.is_counted ≡ true → is_asked x.place ≡ true → x.seen ≡ calls → x.next ≢ served → 0 < raisers
  -- if it has read all calls, somebody calls later, or another thread has the next ticket
  pub expects : x.is_counted ≡ true → settles x.place ≡ true → x.seen ≡ calls → raisers ≡ 0 → (served < tickets) × (x.has_ticket ≡ true → x.ticket ≢ served)
  -- if it has a ticket, and there was a call since it read them, it is woken
  pub called : x.has_ticket ≡ true → is_asleep x.place ≡ true → x.seen ≢ calls → 0 < wakers

-- without the sleepers
pub record IsFair (s : State) : Type 0 where
  pub counted : s.sleepers ≡ how_many s (λ x. x.is_counted)
  pub holder : number s is_holding ≡ cond s.is_held 1 0
  -- each ticket that is out has one thread, and no other ticket has any
  pub order : s.served ≤ s.tickets
  pub out : (k : ℕ) → s.served ≤ k → k < s.tickets → how_many s (has_this_ticket k) ≡ 1
  pub was_served : (k : ℕ) → k < s.served → how_many s (has_this_ticket k) ≡ 0
  pub not_taken : (k : ℕ) → s.tickets ≤ k → how_many s (has_this_ticket k) ≡ 0
  pub each : (t : ℕ) → IsFine s.calls s.served s.tickets (number s raises_later) (number s wakes_all) (thread_of s t)

-- one that sleeps behind is seen to
pub record IsSound (s : State) : Type 0 where
  pub fair : IsFair s
  pub seen_to : 0 < how_many s (sleeps_behind s.calls) → 0 < number s raises_later + (number s wakes_later + how_many s (is_awake s.calls))

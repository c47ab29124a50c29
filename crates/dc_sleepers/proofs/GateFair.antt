-- What a thread's going to another place leaves of the gate.
use Rattle.std.proofs.Common.{◌≡◌, ℕ, ◌+◌, ◌<◌, ◌≤◌, ◌==◌, ◌&&◌, Bool, true, false, cond, List, length, get_or, set, sym, ap, ◌∙◌, arith}
use Rattle.std.specs.List.{count_by}
use Rattle.dc_sleepers.specs.declared.gate.Thread.{Thread}
use Rattle.dc_sleepers.specs.Gates.{State, idle, thread_of, with_thread, is_asleep, sleeps_behind}
use Rattle.dc_sleepers.specs.GateLaw.{number, is_awake}
use Rattle.dc_sleepers.specs.GateLaw.{is_holding}
use Rattle.dc_sleepers.specs.GateSound.{raises_later, wakes_later, wakes_all, may_have_ticket, has_its_turn, is_asked, has_read_served, settles, has_this_ticket, IsFine, IsFair}
use Rattle.dc_sleepers.proofs.Counts.{one, count_moved}
use Rattle.dc_sleepers.proofs.Standing.{each_set}
use Rattle.dc_sleepers.proofs.GateNext.{never}

-- how the numbers go from one list of threads to another, if one that was x is y
pub record Moves (calls : ℕ) (xs ys : List Thread) (x y : Thread) : Type 0 where
  pub counted : count_by (λ (z : Thread). z.is_counted) ys + one x.is_counted ≡ count_by (λ (z : Thread). z.is_counted) xs + one y.is_counted
  pub asleep : count_by (λ (z : Thread). is_asleep z.place) ys + one (is_asleep x.place) ≡ count_by (λ (z : Thread). is_asleep z.place) xs + one (is_asleep y.place)
  pub holding : count_by (λ (z : Thread). is_holding z.place) ys + one (is_holding x.place) ≡ count_by (λ (z : Thread). is_holding z.place) xs + one (is_holding y.place)
  pub raises : count_by (λ (z : Thread). raises_later z.place) ys + one (raises_later x.place) ≡ count_by (λ (z : Thread). raises_later z.place) xs + one (raises_later y.place)
  pub wakes : count_by (λ (z : Thread). wakes_later z.place) ys + one (wakes_later x.place) ≡ count_by (λ (z : Thread). wakes_later z.place) xs + one (wakes_later y.place)
  pub all : count_by (λ (z : Thread). wakes_all z.place) ys + one (wakes_all x.place) ≡ count_by (λ (z : Thread). wakes_all z.place) xs + one (wakes_all y.place)
  pub behind : count_by (sleeps_behind calls) ys + one (sleeps_behind calls x) ≡ count_by (sleeps_behind calls) xs + one (sleeps_behind calls y)
  pub awake : count_by (is_awake calls) ys + one (is_awake calls x) ≡ count_by (is_awake calls) xs + one (is_awake calls y)
  pub ticket_of : (k : ℕ) → count_by (has_this_ticket k) ys + one (has_this_ticket k x) ≡ count_by (has_this_ticket k) xs + one (has_this_ticket k y)

pub moves : (calls : ℕ) (xs : List Thread) (t : ℕ) (x y : Thread) → t < length xs → get_or xs t idle ≡ x → Moves calls xs (set xs t y) x y
moves calls xs t x y inside e = record {
  counted = count_moved (λ (z : Thread). z.is_counted) xs t idle x y inside e;
  asleep = count_moved (λ (z : Thread). is_asleep z.place) xs t idle x y inside e;
  holding = count_moved (λ (z : Thread). is_holding z.place) xs t idle x y inside e;
  raises = count_moved (λ (z : Thread). raises_later z.place) xs t idle x y inside e;
  wakes = count_moved (λ (z : Thread). wakes_later z.place) xs t idle x y inside e;
  all = count_moved (λ (z : Thread). wakes_all z.place) xs t idle x y inside e;
  behind = count_moved (sleeps_behind calls) xs t idle x y inside e;
  awake = count_moved (is_awake calls) xs t idle x y inside e;
  ticket_of = λ k. count_moved (has_this_ticket k) xs t idle x y inside e;
}

-- more that see to it
pub more : (calls served tickets r w r' w' : ℕ) (x : Thread) → IsFine calls served tickets r w x → r ≤ r' → w ≤ w' → IsFine calls served tickets r' w' x
more calls served tickets r w r' w' x F raises wakes = record {
  behind = F.behind;
  sleeps = F.sleeps;
  holds = F.holds;
  turn = F.turn;
  next_is = F.next_is;
  stale = λ c a s n. let some : 0 < r = F.stale c a s n in omega arith;
  expects = λ c a s none. F.expects c a s (omega arith);
  called = λ h a s. let some : 0 < w = F.called h a s in omega arith;
}

-- a thread at a place at which nothing is asked of it, but of its ticket
pub bland : (calls served tickets r w : ℕ) (x : Thread) → is_asleep x.place ≡ false → has_its_turn x.place ≡ false → has_read_served x.place ≡ false → is_asked x.place ≡ false → settles x.place ≡ false
    → x.seen ≤ calls → (x.has_ticket ≡ true → may_have_ticket x.place x.is_counted ≡ true) → IsFine calls served tickets r w x
bland calls served tickets r w x a b c d e seen holds = record {
  behind = seen;
  holds = holds;
  sleeps = λ h. never (sym a ∙ h);
  turn = λ _ h. never (sym b ∙ h);
  next_is = λ h. never (sym c ∙ h);
  stale = λ _ h. never (sym d ∙ h);
  expects = λ _ h. never (sym e ∙ h);
  called = λ _ h. never (sym a ∙ h);
}

-- a thread that may try
pub turned : (calls served tickets r w : ℕ) (x : Thread) → is_asleep x.place ≡ false → has_read_served x.place ≡ false → is_asked x.place ≡ false → settles x.place ≡ false
    → x.seen ≤ calls → (x.has_ticket ≡ true → may_have_ticket x.place x.is_counted ≡ true) → (x.has_ticket ≡ true → x.ticket ≡ served) → IsFine calls served tickets r w x
turned calls served tickets r w x a c d e seen holds turn = record {
  behind = seen;
  holds = holds;
  turn = λ h _. turn h;
  sleeps = λ h. never (sym a ∙ h);
  next_is = λ h. never (sym c ∙ h);
  stale = λ _ h. never (sym d ∙ h);
  expects = λ _ h. never (sym e ∙ h);
  called = λ _ h. never (sym a ∙ h);
}

-- a thread goes to another place, and no word of the calls and tickets is written
pub calmly : (s : State) (t : ℕ) (x y : Thread) (held : Bool) (sleepers : ℕ) → t < length s.threads → thread_of s t ≡ x → IsFair s → y.has_ticket ≡ x.has_ticket → y.ticket ≡ x.ticket
    → sleepers + one x.is_counted ≡ s.sleepers + one y.is_counted → cond held 1 0 + one (is_holding x.place) ≡ cond s.is_held 1 0 + one (is_holding y.place)
    → one (raises_later x.place) ≤ one (raises_later y.place) → one (wakes_all x.place) ≤ one (wakes_all y.place)
    → IsFine s.calls s.served s.tickets (number (with_thread s t y) raises_later) (number (with_thread s t y) wakes_all) y → IsFair (record (with_thread s t y) { is_held = held; sleepers = sleepers })
calmly s t x y held sleepers inside e F has ticket counted holding raises all mine =
    let m : Moves s.calls s.threads (set s.threads t y) x y = moves s.calls s.threads t x y inside e in
    let same : (k : ℕ) → one (has_this_ticket k y) ≡ one (has_this_ticket k x) = λ k i. one (has i && (ticket i == k)) in record {
      counted = omega (arith, F.counted, m.counted, counted);
      holder = omega (arith, F.holder, m.holding, holding);
      order = F.order;
      out = λ k a b. omega (arith, F.out k a b, m.ticket_of k, same k);
      was_served = λ k a. omega (arith, F.was_served k a, m.ticket_of k, same k);
      not_taken = λ k a. omega (arith, F.not_taken k a, m.ticket_of k, same k);
      each = each_set (IsFine s.calls s.served s.tickets (number (with_thread s t y) raises_later) (number (with_thread s t y) wakes_all)) s.threads t y idle inside
          (λ k _. more s.calls s.served s.tickets (number s raises_later) (number s wakes_all) (number (with_thread s t y) raises_later) (number (with_thread s t y) wakes_all) (thread_of s k) (F.each k) (omega (arith, m.raises, raises)) (omega (arith, m.all, all))) mine;
    }

-- no word at all
pub quiet : (s : State) (t : ℕ) (x y : Thread) → t < length s.threads → thread_of s t ≡ x → IsFair s → y.is_counted ≡ x.is_counted → y.has_ticket ≡ x.has_ticket → y.ticket ≡ x.ticket
    → is_holding y.place ≡ is_holding x.place → one (raises_later x.place) ≤ one (raises_later y.place) → one (wakes_all x.place) ≤ one (wakes_all y.place)
    → IsFine s.calls s.served s.tickets (number (with_thread s t y) raises_later) (number (with_thread s t y) wakes_all) y → IsFair (with_thread s t y)
quiet s t x y inside e F counted has ticket holding raises all mine =
    let c : one y.is_counted ≡ one x.is_counted = ap one counted in let h : one (is_holding y.place) ≡ one (is_holding x.place) = ap one holding in
    calmly s t x y s.is_held s.sleepers inside e F has ticket (omega (arith, c)) (omega (arith, h)) raises all mine

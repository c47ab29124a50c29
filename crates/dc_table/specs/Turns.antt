-- Where a thread's turn at the lock stands, as the machine of `dc_sleepers` has it.
use Rattle.std.specs.Prelude.{nat_lt}
use Rattle.dc_sleepers.specs.declared.lock.Thread.{Thread}
use Rattle.dc_table.specs.declared.acts.Turn.{Turn}

-- the machine's thread: it has slept if the turn counts one of its sleeps
abbrev pub standing : Turn → Thread
standing t = record { place = t.place; has_slept = nat_lt 0 t.sleeps; has_ticket = t.has_ticket; ticket = t.ticket; limit = t.limit; seen = t.seen }

-- A lock is seen as the plain data that it holds.
use Rattle.dc_sleepers.specs.Locks.{State}
use Rattle.dc_sleepers.specs.LockSound.{IsSound}
use Rattle.dc_sleepers.specs.declared.locking.State as rust_state
use Rattle.dc_sleepers.specs.declared.lock.Lock.TheInside.{Inside}

abbrev pub shown : rust_state.State → State
shown s = record { is_held = s.is_held; waiting = s.waiting; drawn = s.drawn; served = s.served; threads = s.threads.items }

abbrev pub state_in : Inside → State
state_in lock = shown lock.state

abbrev pub IsKept : Inside → Type 0
IsKept lock = IsSound (shown lock.state)

use Rattle.dc_plain.specs.KeysShown.{key_shown}
use Rattle.dc_walk.proofs.Standing.{AreOthers}
use Rattle.dc_walk.proofs.used.standing.Given as goal

abbrev pub invariant-loop-i : goal.invariant-loop-i
invariant-loop-i l = AreOthers l.fn.room.items (key_shown l.fn.key) l.i

use Rattle.dc_row.proofs.Roomed.{HasSome}
use Rattle.dc_row.proofs.reading.room_of.Given as goal

-- the bytes of the words before i are in the room, and no others
abbrev pub invariant-loop-i : goal.invariant-loop-i
invariant-loop-i l = HasSome l.words l.room l.i

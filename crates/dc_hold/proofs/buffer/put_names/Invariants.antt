-- What the names so far make of the room is written, and their bytes are counted.
use Rattle.std.proofs.Common.{◌≡◌, take, drop}
use Rattle.dc_hold.specs.Buffers.{names_over}
use Rattle.dc_hold.specs.Numbers.{bytes_of}
use Rattle.dc_hold.proofs.Written.{Writes}
use Rattle.dc_hold.proofs.buffer.put_names.Given as goal

abbrev pub invariant-loop-name : goal.invariant-loop-name
invariant-loop-name l = record {
  written : Writes (names_over l.fn.buffer l.names) l.buffer (drop l.name-index l.names) l.next;
  all : l.all ≡ bytes_of (take l.name-index l.names);
}

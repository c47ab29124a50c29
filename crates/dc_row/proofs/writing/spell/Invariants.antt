use Rattle.dc_row.specs.Spelling.{fields}
use Rattle.dc_row.proofs.Written.{WritesSome}
use Rattle.dc_row.proofs.writing.spell.Given as goal

-- the words before i are written, and all others zero
abbrev pub invariant-loop-i : goal.invariant-loop-i
invariant-loop-i l = WritesSome (fields l.tag l.kind l.number l.value l.text) l.words l.i

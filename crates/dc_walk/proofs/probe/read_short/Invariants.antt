use Rattle.std.proofs.Common.{◌≡◌, ◌+◌, ◌*◌}
use Rattle.dc_row.specs.declared.short.TheConstants.{SHORT_WORDS}
use Rattle.dc_table.specs.Holders.{table_of}
use Rattle.dc_walk.specs.declared.probe.TheConstants.{BLOCK_WORDS}
use Rattle.dc_walk.proofs.Shorts.{ReadsOn}
use Rattle.dc_walk.proofs.probe.read_short.Given as goal

-- the words so far were compared
abbrev pub invariant-loop-i : goal.invariant-loop-i
invariant-loop-i l = ReadsOn (table_of l.fn.reader) l.fn.pass l.pass l.fn.noted l.fn.text l.value l.i (l.differ ≡ 0)

-- and those past the text, block by block
abbrev pub invariant-loop-block : goal.invariant-loop-block
invariant-loop-block l = ReadsOn (table_of l.fn.reader) l.fn.pass l.pass l.fn.noted l.fn.text l.value (SHORT_WORDS + BLOCK_WORDS * l.block) (l.differ ≡ 0)

-- and those of a block
abbrev pub invariant-loop-i-2 : goal.invariant-loop-i-2
invariant-loop-i-2 l = ReadsOn (table_of l.fn.reader) l.fn.pass l.pass l.fn.noted l.fn.text l.value (SHORT_WORDS + BLOCK_WORDS * l.block + l.i) (l.differ ≡ 0)

use Rattle.std.proofs.Common.{length, ◌≤◌}
use Rattle.std.specs.Io.KnownBytes.{Consumes}
use Rattle.dc_serve.proofs.bytes.read_whole.Given as goal
use Rattle.dc_names.specs.declared.limits.TheConstants.{MOST_INPUT}

-- what was read so far is what the reader has lost
abbrev pub invariant-reads : goal.invariant-reads
invariant-reads g l = record {
  taken : Consumes (g.R.Read.remaining l.fn.reader) (g.R.Read.remaining l.reader) l.input.items;
  bound : length l.input.items ≤ MOST_INPUT;
}

use Rattle.std.proofs.Common.{length, ◌≡◌, ◌≤◌, ◌-◌, ◌+◌, drop}
use Rattle.dc_lang.specs.Lines.{line_length}
use Rattle.dc_lang.proofs.input.line_len.Given as goal

abbrev pub invariant-bytes : goal.invariant-bytes
invariant-bytes l = record {
  within : l.len ≤ length l.bytes;
  rest : l.len + line_length (drop l.len l.bytes) ≡ line_length l.bytes;
}

abbrev pub decreases-bytes : goal.decreases-bytes
decreases-bytes l = length l.bytes - l.len

use Rattle.std.proofs.Common.{◌≢◌, ◌↔◌, ℕ, ◌-◌, ◌*◌, ◌<◌}
use Rattle.dc_row.specs.Decoding.{byte_in}
use Rattle.dc_row.proofs.entry.ends_at.Given as goal

-- the bytes of the words before i are the text's
abbrev pub invariant-text : goal.invariant-text
invariant-text l = (j : ℕ) → j < 8 * (l.i - 4) → (j < l.len) ↔ (byte_in l.words j ≢ 0)

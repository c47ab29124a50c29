use Rattle.std.proofs.Common.{◌≡◌, ℕ, ◌<◌, ◌≤◌, ◌↔◌, get_or}
use Rattle.dc_row.proofs.entry.are_zero.Given as goal

-- the words so far are zero
abbrev pub invariant-loop-i : goal.invariant-loop-i
invariant-loop-i l = (l.any ≡ 0) ↔ ((j : ℕ) → l.from ≤ j → j < l.i → get_or l.words j 0 ≡ 0)

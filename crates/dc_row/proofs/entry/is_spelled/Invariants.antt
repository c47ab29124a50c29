use Rattle.std.proofs.Common.{◌≡◌, ℕ, ◌-◌, ◌<◌, ◌≤◌, get_or}
use Rattle.dc_row.specs.Spelling.{text_word}
use Rattle.dc_row.proofs.entry.is_spelled.Given as goal

-- the words before i have the text's
abbrev pub invariant-text : goal.invariant-text
invariant-text l = (j : ℕ) → 4 ≤ j → j < l.i → get_or l.words j 0 ≡ text_word l.text (j - 4)

use Rattle.std.proofs.Common.{◌≡◌, ◌++◌, map, drop}
use Rattle.dc_plain.specs.Plain.{entry_shown}
use Rattle.dc_plain.proofs.holding.copy_entries.Given as goal

abbrev pub invariant-loop-entry : goal.invariant-loop-entry
invariant-loop-entry l = map entry_shown l.copies.items ++ map entry_shown (drop l.entry-index l.entries) ≡ map entry_shown l.entries

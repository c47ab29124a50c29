use Rattle.std.proofs.Common.{◌≡◌, map, drop}
use Rattle.dc_plain.specs.Facts.{entry_told}
use Rattle.dc_plain.specs.FactsShown.{fact_shown}
use Rattle.dc_plain.specs.KeysShown.{label_shown}
use Rattle.dc_plain.proofs.fact.entry_in.Given as goal

abbrev pub invariant-loop-fact : goal.invariant-loop-fact
invariant-loop-fact l =
    entry_told (map fact_shown (drop l.fact-index l.facts)) l.directory (label_shown l.label) ≡ entry_told (map fact_shown l.facts) l.directory (label_shown l.label)

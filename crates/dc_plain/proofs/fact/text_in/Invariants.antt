use Rattle.std.proofs.Common.{◌≡◌, map, drop}
use Rattle.dc_plain.specs.Facts.{text_told}
use Rattle.dc_plain.specs.FactsShown.{fact_shown}
use Rattle.dc_plain.proofs.fact.text_in.Given as goal

abbrev pub invariant-loop-fact : goal.invariant-loop-fact
invariant-loop-fact l = text_told (map fact_shown (drop l.fact-index l.facts)) l.link ≡ text_told (map fact_shown l.facts) l.link

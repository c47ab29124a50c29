use Rattle.std.proofs.Common.{◌≡◌, ◌++◌, map, drop}
use Rattle.dc_plain.specs.FactsShown.{fact_shown}
use Rattle.dc_core.specs.Told.{AreRows, facts_told}
use Rattle.dc_core.proofs.facts.facts_of.Given as goal

abbrev pub invariant-loop-row : goal.invariant-loop-row
invariant-loop-row l = record {
  facts : map fact_shown l.facts.items ++ facts_told (drop l.row-index l.rows) ≡ facts_told l.rows;
  left : AreRows (drop l.row-index l.rows);
}

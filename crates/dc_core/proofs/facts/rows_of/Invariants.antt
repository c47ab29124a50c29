use Rattle.std.proofs.Common.{◌≡◌, ◌++◌, map, drop}
use Rattle.dc_core.specs.Shown.{note_shown}
use Rattle.dc_core.specs.Told.{AreSpelled, AreRows, facts_told}
use Rattle.dc_events.specs.Noted.{facts_in}
use Rattle.dc_core.proofs.facts.rows_of.Given as goal

abbrev pub invariant-loop-note : goal.invariant-loop-note
invariant-loop-note l = record {
  facts : facts_told l.rows.items ++ facts_in (map note_shown (drop l.note-index l.notes)) ≡ facts_in (map note_shown l.notes);
  rows : AreRows l.rows.items;
  left : AreSpelled (map note_shown (drop l.note-index l.notes));
}

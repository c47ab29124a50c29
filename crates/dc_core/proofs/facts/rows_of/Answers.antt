use Rattle.std.proofs.Common.{arith}
use Rattle.dc_core.proofs.Told.{told_on, spelled_here}
use Rattle.dc_core.proofs.facts.rows_of.Goals as goal

pub push_row-requires-clause-spelled : goal.push_row-requires-clause-spelled
push_row-requires-clause-spelled c = (spelled_here c.args.notes.now c.loop-note.note-index c.note-item.result (omega arith) c.note-item.is c.loop-note.invariant.left).0

pub loop-note-preserved : goal.loop-note-preserved
loop-note-preserved c = record {
  facts = told_on c.loop-note.rows.items c.push_row.new.rows.items c.args.notes.now c.loop-note.note-index c.note-item.result (omega arith) c.note-item.is c.loop-note.invariant.facts c.in_ok-push_row.ensures.facts;
  rows = c.in_ok-push_row.ensures.rows;
  left = (spelled_here c.args.notes.now c.loop-note.note-index c.note-item.result (omega arith) c.note-item.is c.loop-note.invariant.left).1;
}

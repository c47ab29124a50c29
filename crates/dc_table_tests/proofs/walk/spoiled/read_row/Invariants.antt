use Rattle.std.proofs.Common.{◌≡◌, get_or, length}
use Rattle.dc_names.specs.declared.limits.TheConstants.{ROW_WORDS}
use Rattle.dc_events.specs.Effects.{begins}
use Rattle.dc_plain.specs.Requests.{request_of}
use Rattle.dc_table.specs.Holders.{table_of}
use Rattle.dc_table.specs.Passes.{view, Fits, StaysOut}
use Rattle.dc_walk.specs.Findings.{CanWalk}
use Rattle.dc_walk.specs.Probes.{probed, read_of}
use Rattle.dc_table_tests.proofs.walk.spoiled.read_row.Given as goal

abbrev pub invariant-loop-i : goal.invariant-loop-i
invariant-loop-i g l = record {
  fits : Fits (table_of l.reader) l.pass;
  stays : StaysOut l.fn.pass l.pass;
  other : CanWalk l.shared l.other;
  size : length l.words ≡ ROW_WORDS;
  read : view l.pass ≡ probed (begins l.fn.first (view l.fn.pass) (request_of l.fn.call)) l.fn.row (get_or l.words 0 0) (read_of l.words l.i);
}

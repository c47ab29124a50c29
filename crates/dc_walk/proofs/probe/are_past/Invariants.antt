use Rattle.std.proofs.Common.{◌≡◌}
use Rattle.dc_events.specs.Views.{View}
use Rattle.dc_table.specs.Holders.{table_of}
use Rattle.dc_table.specs.Passes.{view, Fits, StaysOut}
use Rattle.dc_walk.specs.Probes.{HasRead}
use Rattle.dc_walk.proofs.Wides.{ReadsOn}
use Rattle.dc_walk.proofs.probe.are_past.Given as goal

-- the words so far were seen
abbrev pub invariant-loop-i : goal.invariant-loop-i
invariant-loop-i l = record {
  fits : Fits (table_of l.fn.reader) l.pass;
  stays : StaysOut l.fn.pass l.pass;
  read : (v : View) → HasRead v (view l.fn.pass) l.fn.row l.fn.words l.fn.from → ReadsOn v (view l.pass) l.fn.row l.fn.words l.fn.from l.i (l.past ≡ 0);
}

use Rattle.dc_table.specs.Holders.{table_of}
use Rattle.dc_table.specs.Passes.{view, Fits, StaysOut}
use Rattle.dc_walk.proofs.Probed.{ReadsFrom}
use Rattle.dc_walk.proofs.probe.read_words.Given as goal

abbrev pub invariant-loop-i : goal.invariant-loop-i
invariant-loop-i l = record {
  fits : Fits (table_of l.fn.reader) l.pass;
  stays : StaysOut l.fn.pass l.pass;
  words : ReadsFrom (view l.fn.pass) l.fn.words l.fn.from (view l.pass) l.fn.row l.words l.i;
}

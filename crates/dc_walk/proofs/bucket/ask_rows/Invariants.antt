use Rattle.std.proofs.Common.{◌≡◌, false, ◌+◌}
use Rattle.dc_walk.specs.Findings.{IsFinding, now_in}
use Rattle.dc_walk.specs.Seeks.{key_in, LooksOn}
use Rattle.dc_walk.specs.Sights.{LookedWhole}
use Rattle.dc_walk.specs.declared.probe.Extent.TheVariants.{Whole}
use Rattle.dc_walk.proofs.bucket.ask_rows.Given as goal

abbrev pub invariant-loop-k : goal.invariant-loop-k
invariant-loop-k l = record {
  on : LooksOn l.fn.rows l.rows;
  slow : l.rows.slow ≡ l.fn.rows.slow;
  used : l.rows.used.now.items ≡ l.fn.rows.used.now.items;
  spent : l.rows.used.now.spent ≡ l.fn.rows.used.now.spent;
  finding : IsFinding l.rows (l.fn.earlier + l.k);
  looked : LookedWhole (now_in l.rows) l.fn.lane.first (key_in l.fn.sought) l.left l.k l.odd;
  whole : l.fn.extent ≡ Whole → l.left ≡ false;
}

-- The entries so far are written, and the slots behind them are as they were.
use Rattle.std.proofs.Common.{◌≡◌, take, drop, map, length}
use Rattle.dc_hold.specs.Pages.{entry_written}
use Rattle.dc_hold.proofs.pages.put_entries.Given as goal

abbrev pub invariant-loop-at : goal.invariant-loop-at
invariant-loop-at l = record {
  long : length l.slots ≡ length l.fn.slots;
  front : take l.at l.slots ≡ map entry_written (take l.at l.entries);
  back : drop l.at l.slots ≡ drop l.at l.fn.slots;
}

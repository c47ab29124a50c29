use Rattle.std.proofs.Common.{refl}
use Rattle.dc_table.specs.Passes.{known, view}
use Rattle.dc_walk.specs.Looks.{look_shown}
use Rattle.dc_walk.proofs.Answered.{tried_still}
use Rattle.dc_walk.proofs.counted.walk_counted.Goals as goal

pub returns-clause-tried : goal.returns-clause-tried
returns-clause-tried g c = let w = c.walk_by-fast in tried_still (look_shown c.args.look) (view c.args.pass.now) w.result.0 w.ensures.walks.tried c.unpin.ensures.rests

pub returns-clause-pins : goal.returns-clause-pins
returns-clause-pins g c = let w = c.walk_by-fast in record {
  spare = w.result.1;
  between = known w.new.pass;
  pinned = w.ensures.pins refl;
  unpinned = c.unpin.ensures.unpinned;
}

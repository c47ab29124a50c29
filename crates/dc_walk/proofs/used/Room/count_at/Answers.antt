use Rattle.dc_walk.proofs.Rooms.{kept_first}
use Rattle.dc_walk.proofs.used.Room.count_at.Goals as goal

pub returns : goal.returns
returns c = kept_first c.self.invariant _ c.self.view_is c.args.at c.requires.kept

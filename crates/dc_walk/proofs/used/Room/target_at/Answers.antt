use Rattle.std.proofs.Common.{arith}
use Rattle.dc_walk.proofs.Rooms.{kept_word}
use Rattle.dc_walk.proofs.used.Room.target_at.Goals as goal

pub returns : goal.returns
returns c = c.leads_to.ensures.told _ (kept_word c.self.invariant _ c.self.view_is c.args.at c.requires.kept 1 (omega arith)) (kept_word c.self.invariant _ c.self.view_is c.args.at c.requires.kept 3 (omega arith))

use Rattle.std.proofs.Common.{ap, sym}
use Rattle.dc_walk.specs.Rooms.{Used}
use Rattle.dc_walk.proofs.Rooms.{kept_is}
use Rattle.dc_walk.proofs.used.Room.row_at.Goals as goal

pub returns : goal.returns
returns c = sym (ap (λ (u : Used). u.row) (kept_is c.self.invariant _ c.self.view_is c.args.at c.requires.kept))

use Rattle.std.proofs.Common.{refl}
use Rattle.dc_plain.specs.Requests.{request_of}
use Rattle.dc_plain.proofs.Altered.{found_alters}
use Rattle.dc_plain.proofs.plain.PlainTree.has_change.Goals as goal

pub returns-in-Ok-Change : goal.returns-in-Ok-Change
returns-in-Ok-Change c =
    let plan = c.in-Ok-Change.ensures in
    (λ yes. found_alters c.args.self.now.limit c.args.self.now.tree (request_of c.args.call.now) c.in-Ok-Change.field-0 c.in-Ok-Change.field-0-0 c.in-Ok-Change.field-0-is plan.found plan.spots, λ other. refl)

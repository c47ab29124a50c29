use Rattle.dc_names.proofs.Valid.{valid_parts}
use Rattle.dc_names.proofs.path.PathText.bytes.Goals as goal

pub returns-clause-parts : goal.returns-clause-parts
returns-clause-parts c = valid_parts c.args.self.now.bytes.now c.args.self.now.valid

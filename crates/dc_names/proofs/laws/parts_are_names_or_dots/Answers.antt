use Rattle.dc_names.proofs.Named.{parts-named}
use Rattle.dc_names.proofs.laws.parts_are_names_or_dots.Goals as goal

pub returns : goal.returns
returns c = parts-named

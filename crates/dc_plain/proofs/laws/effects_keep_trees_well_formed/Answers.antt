use Rattle.dc_plain.proofs.EffectFacts.{new-keeps, further-keeps, lost-keeps}
use Rattle.dc_plain.proofs.MoveFacts.{moved-keeps}
use Rattle.dc_plain.proofs.Swapped.{swap-keeps}
use Rattle.dc_plain.proofs.laws.effects_keep_trees_well_formed.Goals as goal

pub returns : goal.returns
returns c = record { new = new-keeps; further = further-keeps; lost = lost-keeps; moved = moved-keeps; swapped = swap-keeps }

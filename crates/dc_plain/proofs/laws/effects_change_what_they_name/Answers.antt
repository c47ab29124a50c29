use Rattle.dc_plain.proofs.EffectFacts.{new-changes, further-changes, lost-changes}
use Rattle.dc_plain.proofs.MoveFacts.{moved-changes}
use Rattle.dc_plain.proofs.Swapped.{swap-changes}
use Rattle.dc_plain.proofs.laws.effects_change_what_they_name.Goals as goal

pub returns : goal.returns
returns c = record { new = new-changes; further = further-changes; lost = lost-changes; moved = moved-changes; swapped = swap-changes }

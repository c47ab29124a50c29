use Rattle.std.proofs.Common.{ap, sym}
use Rattle.dc_index.specs.Slots.{most_bytes}
use Rattle.dc_index.specs.OwnKeys.{own_label_shown}
use Rattle.dc_index.proofs.slot.OwnLabel.most_bytes.Goals as goal

pub returns-in-Text : goal.returns-in-Text
returns-in-Text c = ap (λ label. most_bytes (own_label_shown label)) (sym c.in-Text.is)

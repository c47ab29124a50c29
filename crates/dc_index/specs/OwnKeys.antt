-- What the slots of the program stand for.
use Rattle.dc_plain.specs.Facts.{Label, Key}
use Rattle.dc_plain.specs.Facts.Label.{Entry, Parent, Text}
use Rattle.dc_index.specs.Slots as spec
use Rattle.dc_index.specs.declared.slot.OwnLabel as rust_label
use Rattle.dc_index.specs.declared.slot.OwnLabel.TheVariants as labels
use Rattle.dc_index.specs.declared.slot.OwnKey as rust_key
use Rattle.dc_index.specs.declared.slot.Slot as rust_slot
use Rattle.dc_index.specs.declared.slot.Slot.TheVariants as slots

abbrev pub own_label_shown : rust_label.OwnLabel → Label
own_label_shown (labels.Name name) = Entry name.items
own_label_shown labels.DotDot = Parent
own_label_shown labels.Text = Text

abbrev pub own_shown : rust_key.OwnKey → Key
own_shown k = record { number = k.number; label = own_label_shown k.label }

abbrev pub slot_shown : rust_slot.Slot → spec.Slot
slot_shown slots.Free = spec.Slot.Free
slot_shown slots.Retired = spec.Slot.Retired
slot_shown (slots.Held key) = spec.Slot.Holds (own_shown key)

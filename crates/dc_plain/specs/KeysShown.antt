-- What the keys of the program stand for.
use Rattle.std.specs.Prelude.{List, Option, option_map}
use Rattle.std.specs.Option.{option_to_list}
use Rattle.dc_plain.specs.Facts.{Label, Key}
use Rattle.dc_plain.specs.Facts.Label.{Entry, Parent, Text}
use Rattle.dc_plain.specs.declared.key.Key as rust_key
use Rattle.dc_plain.specs.declared.key.Label as rust_label
use Rattle.dc_plain.specs.declared.key.Label.TheVariants as labels

-- a label without where its bytes lie
abbrev pub label_shown : rust_label.Label → Label
label_shown (labels.Name name) = Entry name.bytes.now
label_shown labels.DotDot = Parent
label_shown labels.Text = Text

abbrev pub key_shown : rust_key.Key → Key
key_shown k = record { number = k.number; label = label_shown k.label }

-- a key, or none
abbrev pub keys_in : Option rust_key.Key → List Key
keys_in key = option_to_list (option_map key_shown key)

-- The labels that a row may have.
use Rattle.std.specs.Prelude.{IsTrue}
use Rattle.dc_names.specs.Bytes.{is_name}
use Rattle.dc_plain.specs.Facts.{Label}
use Rattle.dc_plain.specs.Facts.Label.{Entry, Parent, Text}

abbrev pub IsLabel : Label → Type 0
IsLabel (Entry name) = IsTrue (is_name name)
IsLabel Parent = Unit {0}
IsLabel Text = Unit {0}

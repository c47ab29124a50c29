-- What the rows of the program tell, as facts.
use Rattle.std.specs.Prelude.{Option, Some, None}
use Rattle.dc_plain.specs.Facts.{Label, Fact}
use Rattle.dc_plain.specs.Facts.Label.{Entry, Parent}
use Rattle.dc_plain.specs.Facts.Fact.{Leads, Reads}
use Rattle.dc_row.specs.declared.row.Row as rust_row
use Rattle.dc_row.specs.declared.row.RowLabel as rust_label
use Rattle.dc_row.specs.declared.row.Row.TheVariants as rows
use Rattle.dc_row.specs.declared.row.RowLabel.TheVariants as labels

abbrev pub label_shown : rust_label.RowLabel → Label
label_shown (labels.Name name) = Entry name
label_shown labels.DotDot = Parent

-- an empty row tells nothing
abbrev pub row_shown : rust_row.Row → Option Fact
row_shown rows.Empty = None
row_shown (rows.Entry dir label target) = Some (Leads dir (label_shown label) target)
row_shown (rows.Link number text) = Some (Reads number text)

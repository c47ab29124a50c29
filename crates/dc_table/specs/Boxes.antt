-- What lies in the slot of the table.
use Rattle.std.specs.Prelude.{Box}
use Rattle.std.specs.Global.{Global}
use Rattle.dc_table.specs.declared.table.Guarded.{Guarded}

abbrev pub Boxed : Type 0
Boxed = Box Guarded Global

-- What names and parts of the program stand for.
use Rattle.dc_names.specs.Paths.{Part}
use Rattle.dc_names.specs.Paths.Part.{Name, Dot, DotDot}
use Rattle.dc_names.specs.declared.name.Part as rust_part
use Rattle.dc_names.specs.declared.name.Part.TheVariants as parts

-- a part without where its bytes lie
abbrev pub part_shown : rust_part.Part → Part
part_shown (parts.Normal name) = Name name.bytes.now
part_shown parts.Dot = Dot
part_shown parts.DotDot = DotDot

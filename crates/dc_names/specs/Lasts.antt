-- The last part of a path, and the name that a call wants there.
use Rattle.std.specs.Prelude.{ℕ, List, Result, Ok, Err}
use Rattle.dc_names.specs.Paths.{Part}
use Rattle.dc_names.specs.Paths.Part.{Name as PartName, Dot as PartDot, DotDot as PartDotDot}
use Rattle.dc_names.specs.declared.last.Last as rust_last
use Rattle.dc_names.specs.declared.last.Last.TheVariants as lasts
use Rattle.dc_names.specs.declared.refusal.Refusal.{Refusal}

-- a path of slashes has no last part
pub data Last : Type 0 where
  Root : Last
  Dot : Last
  DotDot : Last
  Name : List ℕ → Last

abbrev pub last_part : Part → Last
last_part (PartName name) = Name name
last_part PartDot = Dot
last_part PartDotDot = DotDot

-- a last part without where its bytes lie
abbrev pub last_shown : rust_last.Last → Last
last_shown lasts.Root = Root
last_shown lasts.Dot = Dot
last_shown lasts.DotDot = DotDot
last_shown (lasts.Normal name) = Name name.bytes.now

-- the name that a path ends in, or else this refusal
abbrev pub name_or : Refusal → Last → Result (List ℕ) Refusal
name_or refusal Root = Err refusal
name_or refusal Dot = Err refusal
name_or refusal DotDot = Err refusal
name_or refusal (Name name) = Ok name

-- the name, or else the refusal for the root, for dot or for dot-dot
abbrev pub name_or_each : Refusal → Refusal → Refusal → Last → Result (List ℕ) Refusal
name_or_each at_root at_dot at_dot_dot Root = Err at_root
name_or_each at_root at_dot at_dot_dot Dot = Err at_dot
name_or_each at_root at_dot at_dot_dot DotDot = Err at_dot_dot
name_or_each at_root at_dot at_dot_dot (Name name) = Ok name

-- Names and texts without where their bytes lie in memory.
use Rattle.std.specs.Prelude.{ℕ, ◌==◌, List, map, filter, Option, option_map}
use Rattle.std.specs.Global.{Vec}
use Rattle.dc_names.specs.declared.path.PathText as rust_text
use Rattle.dc_plain.specs.Trees.{Spot}

-- the bytes of each of some names
abbrev pub names_shown : Vec (Vec ℕ) → List (List ℕ)
names_shown names = map (λ name. name.items) names.items

-- the bytes of a text, if there is one
abbrev pub text_shown : Option rust_text.PathText → Option (List ℕ)
text_shown text = option_map (λ text. text.bytes.now) text

-- the names of the entries that stand in a directory
abbrev pub names_by : ℕ → List (Spot × ℕ) → List (List ℕ)
names_by d entries = map (λ e. e.0.name) (filter (λ e. e.0.dir == d) entries)

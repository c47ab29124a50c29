-- Where the path that some bytes spell leads on a tree, or its refusal.
use Rattle.std.specs.Prelude.{ℕ, List, Result}
use Rattle.dc_names.specs.declared.refusal.Refusal.{Refusal}
use Rattle.dc_names.specs.Paths.{path_in}
use Rattle.dc_plain.specs.declared.call.Follow.{Follow}
use Rattle.dc_plain.specs.Facts.{Target}
use Rattle.dc_plain.specs.Places.{front_of, walk}
use Rattle.dc_plain.specs.Refusals.{ended}
use Rattle.dc_plain.specs.Resolution.{settled_walk}
use Rattle.dc_plain.specs.Trees.{Tree, told_of}

-- where all its parts lead
abbrev pub end_on : Tree → ℕ → List ℕ → Follow → Result Target Refusal
end_on t base text how = ended (settled_walk (walk (told_of t) base (path_in text) how))

-- where all parts but the last lead
abbrev pub front_on : Tree → ℕ → List ℕ → Result Target Refusal
front_on t base text = ended (settled_walk (front_of (told_of t) base (path_in text)))

-- Where each session starts.
use Rattle.std.specs.Prelude.{ℕ, List, replicate, slice_index, slice_set}
use Rattle.dc_plain.specs.Requests.{Answer}
use Rattle.dc_plain.specs.Requests.Answer.{Found}
use Rattle.dc_lang.specs.declared.line.Verb.{Verb}
use Rattle.dc_lang.specs.declared.line.Verb.TheVariants.{Cd}
use Rattle.dc_names.specs.declared.limits.TheConstants.{SESSIONS}

-- at first each session starts at the root
abbrev pub first_bases : List ℕ
first_bases = replicate SESSIONS 1

-- a directory that a `cd` finds is where its session starts from then on
abbrev pub base_after : Verb → Answer → ℕ → ℕ
base_after Cd (Found number kind) base = number
base_after verb answer base = base

-- where each session starts then
abbrev pub bases_after : Verb → ℕ → Answer → List ℕ → List ℕ
bases_after verb session answer bases = slice_set bases session (base_after verb answer (slice_index bases session))

-- What the resolution of some bytes comes to.
use Rattle.std.specs.Prelude.{ℕ, List, Bool, Option}
use Rattle.dc_names.specs.Paths.{parts_of}
use Rattle.dc_names.specs.declared.limits.TheConstants.{MOST_LINKS}
use Rattle.dc_plain.specs.declared.call.Follow.{Follow}
use Rattle.dc_plain.specs.Facts.{Target, Teller}
use Rattle.dc_plain.specs.Resolution.{Outcome, resolve}
use Rattle.dc_resolve.specs.Ends.{Stands, outcome_shown, resolve_by}
use Rattle.dc_resolve.specs.declared.walked.Walked.{Walked}

-- where the parts of some bytes lead from a place, with all links to follow, by whoever tells
abbrev pub resolve_at : Follow → Target → List ℕ → Bool → Teller → Option Outcome
resolve_at how place parts slash = λ teller. resolve teller how MOST_LINKS place (parts_of parts) slash

-- the parts of some bytes lead to an end from where a text begins, by what was said and whatever else may be told later
abbrev pub ResolvesTo : Teller → ℕ → List ℕ → List ℕ → Bool → Follow → Walked → Type 0
ResolvesTo said base text parts slash how end = Stands said (resolve_by base text parts slash how) (outcome_shown end)

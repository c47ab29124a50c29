use Rattle.dc_plain.specs.Resolution.Outcome.{Refused}
use Rattle.dc_plain.proofs.Outcomes.{walk-usual, place-usual}
use Rattle.dc_plain.proofs.laws.resolution_refuses_by_a_list.Goals as goal

pub returns : goal.returns
returns c = record { walks = λ teller base path how refusal. walk-usual teller base path how (Refused refusal); places = place-usual }

use Rattle.dc_plain.proofs.Living.{names-live, names-somewhere, holders-live, next-unused}
use Rattle.dc_plain.proofs.laws.names_lead_to_the_living.Goals as goal

pub returns : goal.returns
returns c = record { names = names-live; nowhere = names-somewhere; holders = holders-live; next = next-unused }

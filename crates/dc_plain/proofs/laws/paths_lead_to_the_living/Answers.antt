use Rattle.dc_plain.proofs.Living.{walks-live, places-live, texts-live}
use Rattle.dc_plain.proofs.laws.paths_lead_to_the_living.Goals as goal

pub returns : goal.returns
returns c = record { walks = walks-live; places = places-live; texts = texts-live }

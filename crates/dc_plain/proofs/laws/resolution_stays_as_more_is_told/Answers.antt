use Rattle.dc_plain.proofs.Later.{walk-stays, place-stays}
use Rattle.dc_plain.proofs.laws.resolution_stays_as_more_is_told.Goals as goal

pub returns : goal.returns
returns c = record { walks = walk-stays; places = place-stays }

use Rattle.dc_plain.proofs.KeysListed.{touches-listed, others-stay}
use Rattle.dc_plain.proofs.KeysFew.{touches-few}
use Rattle.dc_plain.proofs.KeysDistinct.{touches-once}
use Rattle.dc_plain.proofs.KeysAltered.{alters-where}
use Rattle.dc_plain.proofs.laws.calls_touch_the_listed_keys.Goals as goal

pub returns : goal.returns
returns c = let parts = c.parts_are_names_or_dots.ensures in record {
  keys = touches-listed parts;
  others = others-stay parts;
  few = touches-few;
  once = touches-once parts;
  alters = alters-where parts;
}

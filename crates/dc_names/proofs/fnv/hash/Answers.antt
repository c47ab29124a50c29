use Rattle.std.proofs.Common.{refl}
use Rattle.dc_names.specs.Hash.{hash_of}
use Rattle.dc_names.proofs.fnv.hash.Goals as goal

pub returns : goal.returns
unfolding hash_of
returns c = rw (c.hash_from.ensures, c.hash_number.ensures) refl

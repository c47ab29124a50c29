use Rattle.std.proofs.Common.{refl, arith}
use Rattle.dc_walk.proofs.used.Room.new.Goals as goal

pub invariant_of-result : goal.invariant_of-result
invariant_of-result c = record { few = omega arith; many = refl; size = refl; fits = omega arith; below = λ i l. absurd (omega arith) }

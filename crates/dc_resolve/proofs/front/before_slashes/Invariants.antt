use Rattle.std.proofs.Common.{◌≡◌, length}
use Rattle.dc_names.specs.Bytes.{has_parts}
use Rattle.dc_names.specs.Paths.{parts_of}
use Rattle.dc_resolve.specs.Fronts.{Begins}
use Rattle.dc_resolve.proofs.front.before_slashes.Given as goal

abbrev pub invariant-slashes : goal.invariant-slashes
invariant-slashes l = record { parts : parts_of l.rest ≡ parts_of l.fn.bytes; valid : has_parts l.rest ≡ has_parts l.fn.bytes; begins : Begins l.rest l.fn.bytes }

abbrev pub decreases-slashes : goal.decreases-slashes
decreases-slashes l = length l.rest

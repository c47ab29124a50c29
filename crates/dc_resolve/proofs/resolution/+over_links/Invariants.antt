use Rattle.std.proofs.Common.{◌*◌, ◌+◌, length}
use Rattle.dc_names.specs.Paths.{parts_of}
use Rattle.dc_resolve.proofs.Walking.{Walks}
use Rattle.dc_resolve.proofs.resolution.+over_links.Given as goal

abbrev pub decreases-walk_bytes : goal.decreases-walk_bytes
decreases-walk_bytes g l = 2 * l.links + 1

abbrev pub decreases-walk_link : goal.decreases-walk_link
decreases-walk_link g l = 2 * l.links

abbrev pub invariant-walk_bytes-parts : goal.invariant-walk_bytes-parts
invariant-walk_bytes-parts g l = Walks g.F.Finder l.follow l.slash l.is_last l.links l.fn.start l.fn.bytes l.fn.finder l.finder l.left l.place l.rest

abbrev pub decreases-walk_bytes-parts : goal.decreases-walk_bytes-parts
decreases-walk_bytes-parts g l = length (parts_of l.rest)

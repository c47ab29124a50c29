-- What is known of a tree beforehand.
use Rattle.std.specs.Prelude.{◌≡◌, Ok}
use Rattle.dc_names.specs.declared.kind.Kind.TheVariants.{Dir}
use Rattle.dc_plain.specs.declared.call.Follow.TheVariants as follow
use Rattle.dc_plain.specs.Refusals.{walk_on}
use Rattle.dc_plain.specs.Trees.{Tree}
use Rattle.dc_ops.specs.declared.known.Known.{Known}

-- on this tree the path leads to the directory
abbrev pub IsKnownOn : Tree → Known → Type 0
IsKnownOn t known = walk_on t known.base known.front.now follow.Dir ≡ Ok (known.dir, Dir)

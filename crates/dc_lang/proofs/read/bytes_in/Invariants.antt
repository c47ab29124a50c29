use Rattle.std.proofs.Common.{◌≡◌, ◌++◌, option_map, length}
use Rattle.dc_lang.specs.Reading.{bytes_in}
use Rattle.dc_lang.proofs.read.bytes_in.Given as goal

-- the bytes so far, before those of what is left, are those of the text
abbrev pub invariant-bytes : goal.invariant-bytes
invariant-bytes l = option_map (λ more. l.bytes.items ++ more) (bytes_in l.rest) ≡ bytes_in l.text

abbrev pub decreases-bytes : goal.decreases-bytes
decreases-bytes l = length l.rest

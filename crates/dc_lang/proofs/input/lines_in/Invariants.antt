use Rattle.std.proofs.Common.{length, ◌≡◌, ◌++◌, map}
use Rattle.dc_lang.specs.Lines.{lines_of}
use Rattle.dc_lang.proofs.input.lines_in.Given as goal

-- the lines so far and those of the rest are those of the text
abbrev pub invariant-lines : goal.invariant-lines
invariant-lines l = map (λ line. line.now) l.lines.items ++ lines_of l.rest ≡ lines_of l.text

abbrev pub decreases-lines : goal.decreases-lines
decreases-lines l = length l.rest

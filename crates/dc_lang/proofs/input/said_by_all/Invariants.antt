use Rattle.std.proofs.Common.{map, take}
use Rattle.dc_lang.specs.Commands.{meaning_of}
use Rattle.dc_lang.specs.Inputs.{AllSay}
use Rattle.dc_lang.proofs.input.said_by_all.Given as goal

-- the lines so far were read
abbrev pub invariant-loop-at : goal.invariant-loop-at
invariant-loop-at l = AllSay (take l.at (map (λ line. line.now) l.lines)) (map meaning_of l.said.items)

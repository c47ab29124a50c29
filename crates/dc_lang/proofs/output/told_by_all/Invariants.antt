use Rattle.std.proofs.Common.{map, take}
use Rattle.dc_lang.specs.Inputs.{AllTell}
use Rattle.dc_lang.specs.Responses.{response_of}
use Rattle.dc_lang.proofs.output.told_by_all.Given as goal

-- the lines so far were read
abbrev pub invariant-loop-at : goal.invariant-loop-at
invariant-loop-at l = AllTell (take l.at (map (λ line. line.now) l.lines)) (map response_of l.told.items)

use Rattle.std.proofs.Common.{◌≡◌, [], take}
use Rattle.dc_lang.specs.Phases.{ordered_by}
use Rattle.dc_serve.proofs.phase.has_lines.Given as goal

-- the session has none of the lines so far
abbrev pub invariant-loop-line : goal.invariant-loop-line
invariant-loop-line l = ordered_by l.session (take l.line-index l.lines) ≡ []

use Rattle.std.proofs.Common.{◌≡◌, ◌++◌, take}
use Rattle.dc_lang.specs.Phases.{ordered_by}
use Rattle.dc_lang.specs.Served.{all_served, in_phase}
use Rattle.dc_lang.proofs.input.add_session.Given as goal

-- the commands of the lines so far were added
abbrev pub invariant-loop-line : goal.invariant-loop-line
invariant-loop-line l = all_served l.out.items ≡ all_served l.fn.out.items ++ in_phase l.phase (ordered_by l.session (take l.line-index l.lines))

use Rattle.std.proofs.Common.{◌≡◌, ◌++◌}
use Rattle.dc_lang.specs.Phases.{of_sessions, ordered}
use Rattle.dc_lang.specs.Served.{all_served, in_phase}
use Rattle.dc_lang.proofs.input.add_phase.Given as goal

-- the commands of the sessions so far were added
abbrev pub invariant-loop-session : goal.invariant-loop-session
invariant-loop-session l = all_served l.out.items ≡ all_served l.fn.out.items ++ in_phase l.phase (of_sessions l.session (ordered l.lines))

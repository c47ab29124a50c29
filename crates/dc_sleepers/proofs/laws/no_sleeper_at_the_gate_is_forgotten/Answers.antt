use Rattle.dc_sleepers.specs.Gates.{opening, after_all}
use Rattle.dc_sleepers.proofs.GateRuns.{remembers, one_holder, rests_awake, runs_sound, opening_sound}
use Rattle.dc_sleepers.proofs.laws.no_sleeper_at_the_gate_is_forgotten.Goals as goal

pub returns : goal.returns
returns c = record {
  remembered = λ threads es can near. remembers (after_all (opening threads) es) (runs_sound (opening threads) (opening_sound threads) es can near);
  one_holder = λ threads es can near. one_holder (after_all (opening threads) es) (runs_sound (opening threads) (opening_sound threads) es can near);
  at_rest = λ threads es can near. rests_awake (after_all (opening threads) es) (runs_sound (opening threads) (opening_sound threads) es can near);
}

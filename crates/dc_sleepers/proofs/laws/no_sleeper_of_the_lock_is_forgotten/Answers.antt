use Rattle.dc_sleepers.specs.Locks.{opening, after_all}
use Rattle.dc_sleepers.proofs.LockRuns.{remembers, one_holder, rests_awake, runs_sound, opening_sound}
use Rattle.dc_sleepers.proofs.laws.no_sleeper_of_the_lock_is_forgotten.Goals as goal

pub returns : goal.returns
returns c = record {
  remembered = λ threads es can. remembers (after_all (opening threads) es) (runs_sound (opening threads) (opening_sound threads) es can);
  one_holder = λ threads es can. one_holder (after_all (opening threads) es) (runs_sound (opening threads) (opening_sound threads) es can);
  at_rest = λ threads es can. rests_awake (after_all (opening threads) es) (runs_sound (opening threads) (opening_sound threads) es can);
}

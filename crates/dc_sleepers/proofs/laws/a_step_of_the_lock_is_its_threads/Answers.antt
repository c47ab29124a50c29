use Rattle.dc_sleepers.proofs.LockThreads.{may, own, others}
use Rattle.dc_sleepers.proofs.laws.a_step_of_the_lock_is_its_threads.Goals as goal

pub returns : goal.returns
returns c = record {
  may = may;
  own = λ s t act inside. own s t inside act;
  others = λ s t u act begins other. others s t u other act begins;
}

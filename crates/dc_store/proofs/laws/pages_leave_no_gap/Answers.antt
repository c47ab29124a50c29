use Rattle.dc_store.proofs.Gapless.{goes_on, no_gap, rise}
use Rattle.dc_store.proofs.laws.pages_leave_no_gap.Goals as goal

pub returns-clause-no_gap : goal.returns-clause-no_gap
returns-clause-no_gap c = no_gap

pub returns-clause-goes_on : goal.returns-clause-goes_on
returns-clause-goes_on c = goes_on

pub returns-clause-rises : goal.returns-clause-rises
returns-clause-rises c = rise

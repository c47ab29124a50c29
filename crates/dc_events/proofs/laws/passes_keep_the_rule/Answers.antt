use Rattle.dc_events.proofs.Passes as passes
use Rattle.dc_events.proofs.laws.passes_keep_the_rule.Goals as goal

pub returns : goal.returns
returns c = record {
  split = λ limit rows words views hist id v R at. passes.splits R id v at;
  join = λ limit rows words views hist id v R at. passes.joins R id v at;
}

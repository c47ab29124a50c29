use Rattle.dc_resolve.proofs.Fronts.{begins_again, none_so}
use Rattle.dc_resolve.proofs.Splits.{last_alone, none_left, valid_front, valid_rest}
use Rattle.dc_resolve.proofs.front.split_last.Goals as goal

pub first_part-requires : goal.first_part-requires
first_part-requires c = valid_rest c.args.bytes.now c.before_last-front.ensures c.before_slashes-text.ensures.valid c.requires

pub returns-in_err-last-clause-none : goal.returns-in_err-last-clause-none
returns-in_err-last-clause-none c = none_so c.from_residual.result (none_left c.args.bytes.now c.before_last-front.ensures c.before_slashes-text.ensures.parts c.before_slashes-text.ensures.end c.in_err-last.ensures.last)

pub returns-clause-last : goal.returns-clause-last
returns-clause-last c = last_alone c.args.bytes.now c.before_last-front.ensures c.before_slashes-text.ensures.parts c.in_ok-last.ensures.first.parts

pub returns-clause-valid : goal.returns-clause-valid
returns-clause-valid c = valid_front c.args.bytes.now c.before_last-front.ensures c.before_slashes-text.ensures.valid c.requires

pub returns-clause-begins : goal.returns-clause-begins
returns-clause-begins c = let f = c.before_last-front.ensures in begins_again _ _ _ (f.before.piece, f.before.is) c.before_slashes-text.ensures.begins

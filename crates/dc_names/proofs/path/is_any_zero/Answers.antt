use Rattle.std.proofs.Common.{rules, tests, ◌==◌, ◌||◌, false, ◌∙◌}
use Rattle.std.proofs.lemmas.Iterator.{YieldsList-from_slice}
use Rattle.std.proofs.lemmas.Iterator.Consumers.{fold_from_yields_List}
use Rattle.dc_names.proofs.Short.{any_by_fold}
use Rattle.dc_names.proofs.path.is_any_zero.Goals as goal

pub returns : goal.returns
returns c =
    fold_from_yields_List _ (λ zero b. zero || b == 0) false c.fold.result c.fold.ensures.ran (YieldsList-from_slice c.args.bytes.now cc) (λ zero x r q called. search (rules, tests))
    ∙ any_by_fold (λ b. b == 0) false c.args.bytes.now

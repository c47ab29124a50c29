use Rattle.std.proofs.Common.{ℕ, List, ◌++◌, length, ap₂}
use Rattle.std.proofs.lemmas.List.{drop-replicate}
use Rattle.dc_names.specs.declared.limits.TheConstants.{ROW_WORDS}
use Rattle.dc_row.proofs.narrow.widened.Goals as goal

pub returns : goal.returns
returns c = ap₂ (λ (xs ys : List ℕ). xs ++ ys) c.copy_from_slice.ensures.after (drop-replicate (length c.args.words.now) ROW_WORDS 0)

use Rattle.std.proofs.Common.{refl}
use Rattle.dc_table.proofs.holder.Holder.commit.Goals as goal

pub commit_as-requires-clause-call : goal.commit_as-requires-clause-call
commit_as-requires-clause-call c = refl

pub commit_as-requires-clause-can : goal.commit_as-requires-clause-can
commit_as-requires-clause-can c = c.requires.can

pub returns : goal.returns
returns c = c.commit_as.ensures

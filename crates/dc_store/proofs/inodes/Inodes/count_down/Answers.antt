use Rattle.dc_store.proofs.Changes.{count_put}
use Rattle.dc_store.proofs.inodes.Inodes.count_down.Goals as goal

pub returns-clause-left : goal.returns-clause-left
returns-clause-left c = count_put c.args.number _ c.args.self.now

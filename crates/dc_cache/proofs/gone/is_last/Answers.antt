use Rattle.dc_cache.proofs.Taken.{one_name}
use Rattle.dc_cache.proofs.gone.is_last.Goals as goal

pub returns-in-File : goal.returns-in-File
returns-in-File c = one_name c.args.store.now c.args.number c.args.kind c.count.result c.in-File.is c.count.ensures.count c.count.ensures.well c.requires.lives

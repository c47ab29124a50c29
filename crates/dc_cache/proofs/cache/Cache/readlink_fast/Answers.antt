use Rattle.dc_cache.proofs.ReadLinks.{reads_fast}
use Rattle.dc_cache.proofs.cache.Cache.readlink_fast.Goals as goal

pub returns-in-Done-clause-reads : goal.returns-in-Done-clause-reads
returns-in-Done-clause-reads g c = reads_fast _ _ _ _ _ c.in-Done.found c.told_of.result c.told_of.ensures c.in-Done.ensures.keeps

pub returns-in-Again-clause-reads : goal.returns-in-Again-clause-reads
returns-in-Again-clause-reads g c = c.in-Again.ensures.keeps

use Rattle.dc_cache.proofs.cache.Cache.look_fast.Goals as goal

pub returns-clause-keeps : goal.returns-clause-keeps
returns-clause-keeps g c = c.walk_fast.ensures.walks.keeps

pub returns-clause-asks : goal.returns-clause-asks
returns-clause-asks g c = c.walk_fast.ensures.walks.asks

pub returns-clause-untried : goal.returns-clause-untried
returns-clause-untried g c = c.walk_fast.ensures.untried

pub returns-clause-loads : goal.returns-clause-loads
returns-clause-loads g c = c.walk_fast.ensures.walks.loads

use Rattle.dc_plain.specs.Requests.{request_of}
use Rattle.dc_cache.proofs.Takes.{takes_away}
use Rattle.dc_cache.proofs.cache.Cache.try_change_telling.Goals as goal

pub returns-clause-made : goal.returns-clause-made
returns-clause-made g c = let made = c.in_ok-made in takes_away c.args.pass.now _ (request_of c.args.call.now) made.made c.told.result.0 c.told.result.1 made.gone c.told.ensures.made c.told.ensures.gone made.ensures.made

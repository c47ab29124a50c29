use Rattle.dc_events.proofs.Walks.{unloaded}
use Rattle.dc_events.proofs.laws.loads_tell_nothing.Goals as goal

pub returns : goal.returns
returns c = unloaded

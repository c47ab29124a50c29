use Rattle.std.proofs.Common.{◌+◌, ◌*◌}
use Rattle.dc_soak.proofs.threads.+fn-spread-join+arg3+spread.Given as goal

abbrev pub decreases-join+arg3 : goal.decreases-join+arg3
decreases-join+arg3 g l = 2 * l.rest + 1

abbrev pub decreases-spread : goal.decreases-spread
decreases-spread g l = 2 * l.others

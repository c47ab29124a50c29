use Rattle.dc_hold.proofs.told.busy.Goals as goal

pub returns : goal.returns
returns c = c.nothing.ensures

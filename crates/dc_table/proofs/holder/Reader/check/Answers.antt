use Rattle.dc_table.proofs.holder.Reader.check.Goals as goal

pub returns-then-found-noted : goal.returns-then-found-noted
returns-then-found-noted c = let e = c.check_as-found.ensures in record { same = e.same; checked = e.same_count c.if-found-noted.true; changed = tt; stood = e.stood c.if-found-noted.true; pivots = e.pivots }

pub returns-else-found-noted : goal.returns-else-found-noted
returns-else-found-noted c = let e = c.check_as-found.ensures in record { same = e.same; checked = tt; changed = e.other_count c.if-found-noted.false; stood = tt; pivots = e.pivots }

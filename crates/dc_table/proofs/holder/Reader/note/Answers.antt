use Rattle.dc_table.proofs.holder.Reader.note.Goals as goal

pub returns-then-found-eq0 : goal.returns-then-found-eq0
returns-then-found-eq0 c = let e = c.note_as-found.ensures in let even = c.if-found-eq0.true in record { same = e.same; noted = (even, e.even even); odd = tt }

pub returns-else-found-eq0 : goal.returns-else-found-eq0
returns-else-found-eq0 c = let e = c.note_as-found.ensures in record { same = e.same; noted = tt; odd = e.odd c.if-found-eq0.false }

use Rattle.dc_serve.proofs.phase.take_in.Goals as goal

pub returns : goal.returns
returns c = record { fits = c.join.ensures.pass; joined = c.join.ensures.both; ok = c.with_session.ensures.ok; err = c.with_session.ensures.err }

use Rattle.dc_serve.proofs.phase.+highest.Given as goal

abbrev pub decreases-highest : goal.decreases-highest
decreases-highest l = l.count

use Rattle.dc_serve.proofs.phase.+serve_down_from.Given as goal

abbrev pub decreases-serve_down_from : goal.decreases-serve_down_from
decreases-serve_down_from g l = l.session

use Rattle.dc_serve.proofs.Served.{answers-run, tree-run}
use Rattle.dc_serve.proofs.laws.replies_are_those_of_a_run.Goals as goal

pub returns : goal.returns
returns c = record { answers = answers-run; tree = tree-run }

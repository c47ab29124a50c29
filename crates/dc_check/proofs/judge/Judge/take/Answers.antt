use Rattle.std.proofs.Common.{sym, subst}
use Rattle.std.proofs.lemmas.Result.{MatchResult-weaker}
use Rattle.dc_check.specs.Judges.{numbered_of}
use Rattle.dc_check.specs.Judging.{Judge, IsGood}
use Rattle.dc_check.proofs.judge.Judge.take.Goals as goal

pub returns-clause-err : goal.returns-clause-err
returns-clause-err c = MatchResult-weaker c.meet.result c.meet.ensures.err (λ x p. p)
    (λ fault not_good blames takes. not_good blames (subst (λ (j : Judge). IsGood j (numbered_of c.args.numbered)) (sym c.in_ok-reach.ensures.new) takes.1))

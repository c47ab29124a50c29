use Rattle.std.proofs.Common.{rules}
use Rattle.dc_serve.specs.Served.{Gives}
use Rattle.dc_serve.specs.Threads.{Returns}
use Rattle.dc_serve.proofs.Shared.{at_once, by_thread}
use Rattle.dc_serve.proofs.phase.end.Goals.{in-Ok, in-Err}
use Rattle.dc_serve.proofs.phase.end.Goals as goal

pub take_in-requires-clause-pass : goal.take_in-requires-clause-pass
take_in-requires-clause-pass g c =
    let started = c.args.started in let back = c.match-started.back in let gives : Gives started back = elim c.match-started.branch [
      | in-Ok w ↦ let kept : Returns w.in-Ok.handle.promise w.join-back.result = search rules in by_thread started back w.in-Ok.handle w.join-back.result w.in-Ok.is w.back-is kept
      | in-Err w ↦ at_once started back w.in-Err.back w.in-Err.is w.back-is
    ] in
    (c.requires.pass, c.requires.started back gives)

pub returns : goal.returns
returns g c =
    let started = c.args.started in let back = c.match-started.back in let gives : Gives started back = elim c.match-started.branch [
      | in-Ok w ↦ let kept : Returns w.in-Ok.handle.promise w.join-back.result = search rules in by_thread started back w.in-Ok.handle w.join-back.result w.in-Ok.is w.back-is kept
      | in-Err w ↦ at_once started back w.in-Err.back w.in-Err.is w.back-is
    ] in
    record { back = back; gives = gives; takes = c.take_in.ensures }

use Rattle.std.proofs.Common.{◌<◌, ◌+◌, ap, refl, rules, arith, length}
use Rattle.std.specs.Prelude.{Ok, Result}
use Rattle.dc_cache.specs.Passes.{known, share}
use Rattle.dc_lang.specs.Phases.{ordered}
use Rattle.dc_serve.specs.Bytes.{bytes_of}
use Rattle.dc_serve.specs.Threads.{book}
use Rattle.dc_serve.specs.declared.fault.ServeFault.{ServeFault}
use Rattle.dc_serve.specs.declared.phase.PhaseReplies.{PhaseReplies}
use Rattle.dc_serve.proofs.Forks.{obeyed_nobody, took_next, took_nobody}
use Rattle.dc_serve.proofs.Phased.{obeyed_up, obeyed_with}
use Rattle.dc_serve.proofs.Shared.{Fork, same_fork, same_still}
use Rattle.dc_serve.proofs.phase.serve_here.Goals as goal

pub returns : goal.returns
returns g c =
    let orders = ordered c.args.phase.now.lines.now in
    let session = c.args.session in let bases = c.args.bases in
    let kept = c.split-child.new.pass in let served = c.serve_lines-told in
    let others : Result PhaseReplies ServeFault = Ok (record { texts = c.new.result; bases = bases }) in
    let fork : Fork (known c.args.pass.now) (known kept) (known c.split-child.result) (known kept) (known served.new.pass) (known c.join.new.pass) =
    record { cut = c.split-child.ensures.kept.1; new = c.split-child.ensures.new.1; joined = c.join.ensures.both } in
    let within : session < length bases = search (rules, arith) in
    let front = obeyed_nobody (book kept) bases orders (bytes_of c.new.result.items) (ap bytes_of c.new.ensures.items) in
    let below = obeyed_up (book kept) (book kept) bases 0 session orders others (omega arith) c.requires.lowest.none front in
    record {
      fits = c.join.ensures.pass;
      same_share = same_fork _ _ _ _ _ _ fork (same_still (share kept)) served.ensures.same.1;
      took_in = took_next _ _ _ _ _ _ session (session + 1) orders refl fork (took_nobody (book kept) _) served.ensures.recorded;
      ok = obeyed_with _ _ _ _ _ _ bases session (session + 1) orders others served.result c.with_session.result fork within c.requires.lowest.some refl below served.ensures.ok c.with_session.ensures.ok;
      err = search rules;
    }

use Rattle.std.proofs.Common.{◌+◌, ap, arith}
use Rattle.std.specs.Prelude.{Ok, Result}
use Rattle.dc_lang.specs.Phases.{ordered}
use Rattle.dc_names.specs.declared.limits.TheConstants.{SESSIONS}
use Rattle.dc_serve.specs.Bytes.{bytes_of}
use Rattle.dc_serve.specs.Threads.{book}
use Rattle.dc_serve.specs.declared.fault.ServeFault.{ServeFault}
use Rattle.dc_serve.specs.declared.phase.PhaseReplies.{PhaseReplies}
use Rattle.dc_serve.proofs.Forks.{obeyed_nobody, took_up}
use Rattle.dc_serve.proofs.Phased.{obeyed_up}
use Rattle.dc_serve.proofs.phase.serve_phase.Goals as goal

pub returns-in_default-clause-ok : goal.returns-in_default-clause-ok
returns-in_default-clause-ok g c =
    let bases = c.args.bases in let orders = ordered c.args.phase.now.lines.now in
    let nobody : Result PhaseReplies ServeFault = Ok (record { texts = c.new-texts.result; bases = bases }) in
    let front = obeyed_nobody (book c.args.pass) bases orders (bytes_of c.new-texts.result.items) (ap bytes_of c.new-texts.ensures.items) in
    obeyed_up (book c.args.pass) (book c.args.pass) bases 0 SESSIONS orders nobody (omega arith) (c.highest.ensures.none c.in_default.is) front

pub returns-then-is_none-clause-took_in : goal.returns-then-is_none-clause-took_in
returns-then-is_none-clause-took_in g c =
    let next = c.in-Some.ensures.some in
    took_up (book c.args.pass) (book c.serve_here-replies.new.pass) (c.in-Some.top + 1) SESSIONS (ordered c.args.phase.now.lines.now) (omega (arith, next.below)) c.serve_here-replies.ensures.took_in

pub returns-then-is_none-clause-ok : goal.returns-then-is_none-clause-ok
returns-then-is_none-clause-ok g c =
    let next = c.in-Some.ensures.some in
    obeyed_up (book c.args.pass) (book c.serve_here-replies.new.pass) c.args.bases (c.in-Some.top + 1) SESSIONS (ordered c.args.phase.now.lines.now) c.serve_here-replies.result (omega (arith, next.below)) next.none c.serve_here-replies.ensures.ok

pub returns-clause-took_in : goal.returns-clause-took_in
returns-clause-took_in g c =
    let next = c.in-Some.ensures.some in
    took_up (book c.args.pass) (book c.serve_beside.result.0) (c.in-Some.top + 1) SESSIONS (ordered c.args.phase.now.lines.now) (omega (arith, next.below)) c.serve_beside.ensures.took_in

pub returns-clause-ok : goal.returns-clause-ok
returns-clause-ok g c =
    let next = c.in-Some.ensures.some in
    obeyed_up (book c.args.pass) (book c.serve_beside.result.0) c.args.bases (c.in-Some.top + 1) SESSIONS (ordered c.args.phase.now.lines.now) c.serve_beside.result.1 (omega (arith, next.below)) next.none c.serve_beside.ensures.ok

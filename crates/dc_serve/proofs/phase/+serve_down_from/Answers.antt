use Rattle.std.proofs.Common.{◌≡◌, ◌+◌, ◌<◌, arith, length, refl, rules, subst}
use Rattle.std.specs.Prelude.{slice_index}
use Rattle.dc_cache.specs.Passes.{known}
use Rattle.dc_cache.specs.declared.cache.Pass.{Pass}
use Rattle.dc_lang.specs.Phases.{ordered, ordered_by}
use Rattle.dc_serve.specs.Threads.{GaveBack, book}
use Rattle.dc_serve.proofs.Forks.{took_next, took_up}
use Rattle.dc_serve.proofs.Phased.{obeyed_up, obeyed_with}
use Rattle.dc_serve.proofs.Shared.{Fork, gave_back, same_fork}
use Rattle.dc_serve.proofs.phase.+serve_down_from.Goals as goal

pub end-requires-clause-started : goal.end-requires-clause-started
end-requires-clause-started g t c back gives =
    (gave_back c.start-started.result _ back c.start-started.ensures.started c.start-started.ensures.refused gives).fits

pub returns : goal.returns
returns g t c =
    let cache = c.args.phase.now.cache.now in
    let lines = c.args.phase.now.lines.now in
    let orders = ordered lines in
    let session = c.args.session in let bases = c.args.bases in
    let base = slice_index bases session in
    let child = c.split-child.result in
    let ends = c.end.ensures in let takes = ends.takes in
    let same : c.of.result.value ≡ child = search rules in
    let gave : GaveBack cache child base (ordered_by session lines) ends.back.0 ends.back.1 = subst (λ (p : Pass). GaveBack cache p base (ordered_by session lines) ends.back.0 ends.back.1) same
    (gave_back c.start-started.result _ ends.back c.start-started.ensures.started c.start-started.ensures.refused ends.gives) in
    let served = c.serve_down_from-others in
    let fork : Fork (known c.args.pass.now) (known c.split-child.new.pass) (known child) (known served.new.pass) (known ends.back.0) (known c.end.new.pass) =
    record { cut = c.split-child.ensures.kept.1; new = c.split-child.ensures.new.1; joined = takes.joined } in
    let within : session < length bases = search (rules, arith) in
    let next = c.in-Some.ensures.some in
    let low = c.in-Some.below + 1 in
    let below = obeyed_up (book c.split-child.new.pass) (book served.new.pass) bases low session orders served.result (omega (arith, next.below)) next.none served.ensures.ok in
    let took = took_up (book c.split-child.new.pass) (book served.new.pass) low session orders (omega (arith, next.below)) served.ensures.took_in in
    record {
      fits = takes.fits;
      same_share = same_fork _ _ _ _ _ _ fork served.ensures.same_share gave.same_share;
      took_in = took_next _ _ _ _ _ _ session (session + 1) orders refl fork took gave.recorded;
      ok = obeyed_with _ _ _ _ _ _ bases session (session + 1) orders served.result ends.back.1 c.end.result fork within c.requires.some refl below gave.ok takes.ok;
      err = search rules;
    }

use Rattle.std.proofs.Common.{◌∙◌, ap, rules}
use Rattle.dc_cache.specs.Passes.{known}
use Rattle.dc_lang.specs.Commands.{said_by}
use Rattle.dc_lang.specs.Phases.{all_ordered, phases}
use Rattle.dc_serve.proofs.Ended.{closed, nothing_served, unmade}
use Rattle.dc_serve.proofs.serve.serve.Goals as goal

pub returns-in_err-phases-clause-err : goal.returns-in_err-phases-clause-err
returns-in_err-phases-clause-err g c = let none = nothing_served c.args.options.inodes (phases (said_by c.args.lines.now)) (g.W.Write.contents c.args.writer.now) in search rules

pub returns-in_err-cache-clause-err : goal.returns-in_err-cache-clause-err
returns-in_err-cache-clause-err g c =
    let fails = unmade c.args.options.inodes (phases (said_by c.args.lines.now)) (g.W.Write.contents c.args.writer.now) _ _ c.in_err-cache.field-0.0 c.requires c.new.ensures.size.0 c.in_err-cache.was in search (rules, fails)

pub returns : goal.returns
returns g c =
    let all = closed c.records_are_legal.ensures c.args.options.inodes _ (phases (said_by c.args.lines.now)) (all_ordered c.deref.result.now) (g.W.Write.contents c.args.writer.now) (g.W.Write.contents c.serve_phases-pass.new.writer)
    (known c.in_ok-cache.pass) (known c.serve_phases-pass.result.0) (known c.tell_rows.new.pass) c.serve_phases-pass.result.1 c.close-ended.result c.in_ok-cache.ensures.made.1 (ap all_ordered c.deref.ensures.value ∙ c.in_ok-phases.ensures)
    (record { same = c.tell_rows.ensures.same.1; nothing = c.tell_rows.ensures.nothing }) (c.close-ended.ensures.tree, c.close-ended.ensures.whole) c.serve_phases-pass.ensures.ok c.serve_phases-pass.ensures.err in record { ok = all.ok; err = all.err }

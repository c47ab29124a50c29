use Rattle.std.proofs.Common.{Some, refl, sym, ap, ◌∙◌}
use Rattle.dc_plain.specs.Reads.{look}
use Rattle.dc_plain.specs.Requests.Answer.{Refused}
use Rattle.dc_plain.specs.Requests.Request.{Look}
use Rattle.dc_plain.specs.Trees.{told_of}
use Rattle.dc_resolve.specs.Ends.{outcome_shown}
use Rattle.dc_ops.proofs.Alters.{reads_so}
use Rattle.dc_ops.proofs.Looks.{looks}
use Rattle.dc_ops.proofs.reads.look_by.Goals as goal

pub returns-in-Found-clause-reply : goal.returns-in-Found-clause-reply
returns-in-Found-clause-reply g c limit t told =
    let text = c.args.path.bytes.now in
    reads_so c.alters_tells_whether_trees_differ.ensures limit t (Look c.args.base text c.args.follow) (look t c.args.base text c.args.follow) _ refl
    (sym (looks t c.args.base text c.args.follow _ c.args.path.valid (c.in_ok-number.ensures.answer (told_of t) told ∙ ap (λ w. Some (outcome_shown w)) c.in-Found.is)))

pub returns-in-Refused-clause-reply : goal.returns-in-Refused-clause-reply
returns-in-Refused-clause-reply g c limit t told =
    let text = c.args.path.bytes.now in
    reads_so c.alters_tells_whether_trees_differ.ensures limit t (Look c.args.base text c.args.follow) (look t c.args.base text c.args.follow) _ refl
    (ap Refused c.number.ensures ∙ sym (looks t c.args.base text c.args.follow _ c.args.path.valid (c.in_ok-number.ensures.answer (told_of t) told ∙ ap (λ w. Some (outcome_shown w)) c.in-Refused.is)))

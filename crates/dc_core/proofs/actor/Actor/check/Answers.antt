use Rattle.std.proofs.Common.{◌<◌, ap, ◌∙◌, sym, subst, false}
use Rattle.dc_core.specs.Machine.{Actor}
use Rattle.dc_core.specs.Shown.{actor_shown, note_shown}
use Rattle.dc_core.specs.Told.{with_mark}
use Rattle.dc_core.proofs.Shown.{map_length}
use Rattle.dc_core.proofs.Told.{unmarked}
use Rattle.dc_core.proofs.actor.Actor.check.Goals as goal

pub returns-in-Err-clause-err : goal.returns-in-Err-clause-err
returns-in-Err-clause-err c =
    let a : Actor = actor_shown c.args.self.now in
    let less = subst (λ n. c.args.i < n) (sym (map_length note_shown c.args.self.now.notes.items)) c.requires.room in
    c.mark-in-Err.ensures ∙ ap (λ b. with_mark b c.args.i false) c.mark.ensures ∙ (λ k. record a { walk = record a.walk { notes = unmarked a.walk.notes c.args.i less c.requires.fresh k } })

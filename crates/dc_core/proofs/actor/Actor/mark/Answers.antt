use Rattle.std.proofs.Common.{rules}
use Rattle.atomic_table.proofs.Lists.{at_index}
use Rattle.dc_core.specs.Machine.{Actor}
use Rattle.dc_core.specs.Shown.{actor_shown, note_shown}
use Rattle.dc_events.specs.Walks.{no_note}
use Rattle.dc_core.proofs.Shown.{set_shown}
use Rattle.dc_core.proofs.actor.Actor.mark.Goals as goal

pub returns : goal.returns
returns c =
    let notes = c.args.self.now.notes.items in
    let a : Actor = actor_shown c.args.self.now in
    let at = at_index notes c.args.i c.index_mut.result.now (search rules) c.index_mut.ensures.value in
    let new = set_shown note_shown notes c.args.i c.index_mut.result.now c.mark.new.self no_note (λ x. record x { checked = c.args.checked }) at c.mark.ensures in
    λ i. record a { walk = record a.walk { notes = new i } }

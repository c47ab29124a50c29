use Rattle.std.proofs.Common.{ap, is_some, ◌∙◌}
use Rattle.dc_plain.specs.Spots.{spot_shown}
use Rattle.dc_plain.specs.Trees.{Tree, entry_number}
use Rattle.dc_store.proofs.KeepsSwapped.{there_after}
use Rattle.dc_store.proofs.Stores.{shows_now, sound_as}
use Rattle.dc_store.proofs.Swaps.{after_swap}
use Rattle.dc_store.proofs.map_store.MapStoreStore.swap_entries.Goals as goal

pub redirect-requires-2 : goal.redirect-requires-2
redirect-requires-2 c =
    rw c.redirect.ensures (there_after (spot_shown c.args.a) (spot_shown c.args.b) c.args.second c.self.inside.entries (ap is_some (ap (λ (u : Tree). entry_number u (spot_shown c.args.b)) c.self.view_is ∙ c.requires.second)))

pub invariant_of-self : goal.invariant_of-self
invariant_of-self c =
    sound_as (after_swap c.trees_keep_their_laws.ensures (spot_shown c.args.a) c.args.first (spot_shown c.args.b) c.args.second c.set_parent.new.nodes.entries c.set_parent-2.new.nodes.entries (shows_now c.self.invariant c.self.view_is) c.requires
    c.set_parent.ensures.set c.set_parent-2.ensures.set c.redirect.ensures c.redirect-2.ensures c.set_parent.ensures.shown c.set_parent-2.ensures.shown)

use Rattle.dc_plain.specs.Spots.{spot_shown}
use Rattle.dc_store.proofs.SlabSteps.{first_ready, second_ready, still_tied, has_swapped}
use Rattle.dc_store.proofs.slab_store.SlabStoreStore.swap_entries.Goals as goal

pub redirect-requires : goal.redirect-requires
redirect-requires c = first_ready c.trees_keep_their_laws.ensures (spot_shown c.args.a) (spot_shown c.args.b) c.args.first c.args.second c.self.invariant c.self.view_is c.requires

pub redirect-requires-2 : goal.redirect-requires-2
redirect-requires-2 c = second_ready c.trees_keep_their_laws.ensures (spot_shown c.args.a) (spot_shown c.args.b) c.args.first c.args.second c.self.invariant c.self.view_is c.requires c.redirect.ensures

pub invariant_of-self : goal.invariant_of-self
invariant_of-self c = still_tied c.trees_keep_their_laws.ensures (spot_shown c.args.a) (spot_shown c.args.b) c.args.first c.args.second c.self.invariant c.self.view_is c.requires c.redirect.ensures c.redirect-2.ensures c.set_parent.ensures c.set_parent-2.ensures

pub returns : goal.returns
returns c = has_swapped c.trees_keep_their_laws.ensures (spot_shown c.args.a) (spot_shown c.args.b) c.args.first c.args.second c.self.invariant c.self.view_is c.requires c.redirect.ensures c.redirect-2.ensures c.set_parent.ensures c.set_parent-2.ensures

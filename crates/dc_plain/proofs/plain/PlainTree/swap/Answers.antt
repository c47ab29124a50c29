use Rattle.std.proofs.Common.{◌∙◌, ap, is_some, map, refl}
use Rattle.std.specs.FinMap.Entries.{find as lookup}
use Rattle.dc_plain.specs.Plain.{entry_shown}
use Rattle.dc_plain.specs.Trees.{spot_cmp}
use Rattle.dc_plain.specs.Spots.{spot_shown}
use Rattle.dc_plain.proofs.Overs.{redirected_sorted, redirected_there}
use Rattle.dc_plain.proofs.RowSteps.{both_put}
use Rattle.dc_plain.proofs.Sound.{sound_after}
use Rattle.dc_plain.proofs.plain.PlainTree.swap.Goals as goal

pub redirect-requires-2-clause-sorted : goal.redirect-requires-2-clause-sorted
redirect-requires-2-clause-sorted c = rw c.redirect.ensures (redirected_sorted (record { dir = c.args.from.dir; name = c.bytes.result.now }) c.args.there.0 (map entry_shown c.self.inside.entries.items) c.self.invariant.well.entries_in_order)

pub redirect-requires-2-clause-there : goal.redirect-requires-2-clause-there
redirect-requires-2-clause-there c =
    let there = (λ i. is_some (lookup spot_cmp (record { dir = c.args.to.dir; name = c.bytes-2.ensures.bytes i }) ((c.self.view_is i).tree.entries))) ∙ ap is_some c.requires.leads.1 in
    rw c.redirect.ensures (redirected_there (record { dir = c.args.from.dir; name = c.bytes.result.now }) (record { dir = c.args.to.dir; name = c.bytes-2.result.now }) c.args.there.0 (map entry_shown c.self.inside.entries.items) there)

pub returns-clause-tree : goal.returns-clause-tree
returns-clause-tree c =
    let view = c.self.view_is in let entries = both_put c.args.self.now.tree (spot_shown c.args.from) (spot_shown c.args.to) c.args.moved.0 c.args.there.0 c.redirect-2.ensures c.redirect.ensures c.bytes.ensures.bytes c.bytes-2.ensures.bytes (λ i. (view i).tree.entries) in λ i. record { entries = entries i; inodes = (view i).tree.inodes; next = (view i).tree.next }

pub invariant_of-self : goal.invariant_of-self
invariant_of-self c = sound_after c.parts_are_names_or_dots.ensures c.self.inside _ _ _ c.self.invariant c.self.view_is c.requires.made (returns-clause-tree c) refl

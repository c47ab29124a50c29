use Rattle.std.proofs.Common.{◌∙◌}
use Rattle.dc_store.proofs.Leading.{alone_there, if_none, named_there, no_inode, no_parent, none_there}
use Rattle.dc_store.proofs.slab_store.SlabStore.own_entry.Goals as goal

pub returns-in_err-inode-clause-none : goal.returns-in_err-inode-clause-none
returns-in_err-inode-clause-none c = if_none _ (no_inode c.args.self.now c.args.number c.in_err-inode.ensures.shown)

pub returns-in_err-dir-clause-none : goal.returns-in_err-dir-clause-none
returns-in_err-dir-clause-none c = let one = c.directories_have_one_holder.ensures in let living = c.names_lead_to_the_living.ensures in let inode = c.in_ok-inode.ensures in
    if_none _ (no_parent c.args.self.now inode.well c.args.number one.named living.holders (c.in_err-dir.ensures ∙ inode.kept.node.parent))

pub returns-in_err-name-clause-none : goal.returns-in_err-name-clause-none
returns-in_err-name-clause-none c = let one = c.directories_have_one_holder.ensures in let living = c.names_lead_to_the_living.ensures in let inode = c.in_ok-inode.ensures in
    if_none _ (none_there c.args.self.now inode.well c.args.number one.named living.holders c.in_ok-dir.dir (c.in_ok-dir.ensures ∙ inode.kept.node.parent) c.in_err-name.ensures.none)

pub returns-clause-alone : goal.returns-clause-alone
returns-clause-alone c = let one = c.directories_have_one_holder.ensures in let living = c.names_lead_to_the_living.ensures in
    alone_there c.args.self.now c.in_ok-name.ensures.well c.args.number c.in_ok-dir.dir c.in_ok-name.name.now c.in_ok-name.ensures.found one.named living.names

pub returns-clause-named : goal.returns-clause-named
returns-clause-named c = named_there c.args.self.now c.in_ok-name.ensures.well c.args.number c.in_ok-dir.dir c.in_ok-name.name.now c.in_ok-name.ensures.found

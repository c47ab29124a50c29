use Rattle.std.proofs.Common.{map, ap, ◌∙◌}
use Rattle.dc_store.specs.Maps.{inode_shown}
use Rattle.dc_store.proofs.Nodes.{parent_shown}
use Rattle.dc_store.proofs.node.set_parent.Goals as goal

pub returns-in-Some-clause-shown : goal.returns-in-Some-clause-shown
returns-in-Some-clause-shown c =
    let holds = c.get_mut.follows.holds c.set_parent.new.self in
    ap (map inode_shown) holds.0 ∙ parent_shown _ c.args.nodes.now.entries c.args.parent c.in-Some.node.now c.set_parent.new.self c.in-Some.ensures.value c.set_parent.ensures

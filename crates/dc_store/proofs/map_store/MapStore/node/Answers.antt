use Rattle.std.proofs.Common.{◌∙◌, ap}
use Rattle.dc_plain.specs.Trees.{Tree, inode_of}
use Rattle.dc_store.proofs.Nodes.{node_found, node_told}
use Rattle.dc_store.proofs.map_store.MapStore.node.Goals as goal

pub returns-clause-shown : goal.returns-clause-shown
returns-clause-shown c =
    node_found c.self.inside.entries c.self.inside.nodes.entries c.self.inside.next c.args.number c.get.result c.get.ensures.value
    ∙ ap (λ (t : Tree). inode_of t c.args.number) c.self.view_is

pub returns-clause-kept : goal.returns-clause-kept
returns-clause-kept c =
    rw (← c.self.view_is) (node_told c.self.inside.entries c.self.inside.nodes.entries c.self.inside.next c.args.number c.self.invariant c.get.result c.get.ensures.value)

use Rattle.std.proofs.Common.{◌≡◌, [], ◌∷◌, rules, sym, subst, ◌∙◌}
use Rattle.std.specs.FinMap.Entries.{put}
use Rattle.std.specs.Ordering.{nat_cmp}
use Rattle.dc_store.specs.Slabs.{IsTied}
use Rattle.dc_store.specs.declared.inode.Inode.{Inode}
use Rattle.dc_store.specs.declared.node.Node.TheVariants as nodes
use Rattle.dc_store.proofs.slab_store.SlabStore.with_entries.Goals as goal

-- the root, in which no names are
root_tied : IsTied ((1, record { node = nodes.Dir 1; names = []; count = 0 }) ∷ []) 2
root_tied = search rules

pub invariant_of-result : goal.invariant_of-result
invariant_of-result c =
    let whole : c.insert.new.self ≡ (1, record { node = nodes.Dir 1; names = []; count = 0 }) ∷ [] =
    c.in_ok-insert.ensures.ok ∙ (λ i. put {X = Inode} nat_cmp 1 record { node = nodes.Dir 1; names = c.new.ensures i; count = 0 } ((c.make_room.ensures ∙ c.new-inodes.ensures) i)) in
    subst (λ inodes. IsTied inodes 2) (sym whole) root_tied

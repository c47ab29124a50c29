use Rattle.std.proofs.Common.{ap, sym, ◌∙◌}
use Rattle.std.specs.FinMap.Entries.{put}
use Rattle.std.specs.Ordering.{nat_cmp}
use Rattle.dc_store.proofs.Changes.{on_err, put_same}
use Rattle.dc_store.specs.declared.inode.Inode.{Inode}
use Rattle.dc_store.proofs.inodes.Inodes.enter.Goals as goal

pub returns-in-Some-clause-err : goal.returns-in-Some-clause-err
returns-in-Some-clause-err c =
    on_err c.insert.result (λ same. ap (λ names. put {X = Inode} nat_cmp c.args.dir record { node = c.in-Some.inode.now.node; names = names; count = c.in-Some.inode.now.count } c.args.self.now) same
    ∙ put_same c.args.dir c.in-Some.inode.now c.args.self.now c.in-Some.ensures.in_order (sym c.in-Some.ensures.value)) c.insert.ensures.err

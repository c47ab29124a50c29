use Rattle.std.proofs.Common.{rules, refl}
use Rattle.dc_ops.proofs.Rooms.{may_link}
use Rattle.dc_ops.proofs.makes.link_at.Goals as goal

pub returns-clause-settled : goal.returns-clause-settled
returns-clause-settled g c =
    let t = g.S.Store.tree c.args.store.now in record {
      does = search rules;
      can = (
        c.requires c.present.ensures.well,
        c.is_there.ensures.free c.in_ok-refuse-3.ensures.ok,
        may_link t c.in_ok-inode.inode c.in_ok-inode.ensures.lives c.is_directory.ensures c.in_ok-refuse.ensures.ok c.has_most_names.ensures c.in_ok-refuse-5.ensures.ok,
        refl,
      );
      keys = refl;
      loses = tt;
    }

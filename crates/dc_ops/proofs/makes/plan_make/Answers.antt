use Rattle.std.proofs.Common.{sym, ◌∙◌, rules}
use Rattle.dc_plain.specs.Spots.{where_shown}
use Rattle.dc_ops.proofs.Rooms.{room, number_made}
use Rattle.dc_ops.proofs.makes.plan_make.Goals as goal

pub returns-clause-settled : goal.returns-clause-settled
returns-clause-settled g c =
    let t = g.S.Store.tree c.args.store.now in
    let well = c.is_there.ensures.well in record {
      does = search rules;
      can = (
        c.paths_lead_to_the_living.ensures.texts t c.args.base c.args.path.now (where_shown c.in_ok-at.at) well c.in_ok-at.ensures,
        c.is_there.ensures.free c.in_ok-refuse.ensures.ok,
        room c.args.max_inodes t c.args.new well.next_is (sym c.is_full.ensures.full ∙ c.in_ok-refuse-3.ensures.ok) c.requires.new,
        number_made t c.args.new _ c.next.ensures.next c.requires.new,
      );
      keys = search rules;
      loses = tt;
    }

use Rattle.std.proofs.Common.{◌∙◌, ◌&&◌, length, ap, rules, sym}
use Rattle.dc_plain.specs.Operations.{is_beneath}
use Rattle.dc_ops.proofs.Renamed.{live_by, swapped_keys}
use Rattle.dc_ops.proofs.renames.plan_swap.Goals as goal

pub returns-clause-settled : goal.returns-clause-settled
returns-clause-settled g c = let t = g.S.Store.tree c.args.store.now in record {
  does = search rules;
  can = record {
    first = c.requires.source;
    second = c.in_ok-there.ensures.target;
    two = c.if-moved-there.false;
    apart = ap (λ b. b && is_beneath (length t.inodes) t c.args.to.dir c.args.moved.0) (sym (live_by t c.args.moved c.requires.lives)) ∙ sym c.is_inside.ensures ∙ c.in_ok-refuse-3.ensures.ok;
    apart_too = ap (λ b. b && is_beneath (length t.inodes) t c.args.from.dir c.in_ok-there.there.0) (sym (live_by t c.in_ok-there.there c.in_ok-there.ensures.lives)) ∙ sym c.is_inside-2.ensures ∙ c.in_ok-refuse-4.ensures.ok;
  };
  keys = swapped_keys t c.args.from.dir c.args.old.bytes.now c.args.to.dir c.args.new.bytes.now c.args.moved c.in_ok-there.there c.reparents.result c.reparents-2.result
      c.requires.source c.requires.lives c.in_ok-there.ensures.target c.in_ok-there.ensures.lives c.if-moved-there.false c.reparents.ensures c.reparents-2.ensures;
  loses = tt;
}

use Rattle.std.proofs.Common.{◌∙◌, Some, true, ap, rules, sym}
use Rattle.dc_plain.specs.TouchedKeys.{keys_gone, with_number}
use Rattle.dc_ops.specs.Replaced.{may_end}
use Rattle.dc_ops.specs.Taken.{replaced}
use Rattle.dc_ops.proofs.Renamed.{may_stand, renamed_keys}
use Rattle.dc_ops.proofs.Takings.{kind_replaced, one_kind, other_goes, same_goes}
use Rattle.dc_ops.proofs.renames.plan_move.Goals as goal

pub returns-then-is_one-clause-settled : goal.returns-then-is_one-clause-settled
returns-then-is_one-clause-settled g c = search rules

pub returns-then-is_one-clause-taken : goal.returns-then-is_one-clause-taken
returns-then-is_one-clause-taken g c = let there = c.entry-there.ensures in record {
  taken = same_goes c.args.moved c.entry-there.result (sym c.if-is_one.ensures) ∙ ap (replaced (Some c.args.moved)) there.found;
  kinds = λ is. ap (may_end true) (sym there.found) ∙ one_kind (g.S.Store.tree c.args.store.now) c.args.moved c.entry-there.result c.requires.lives there.lives (sym c.if-is_one.ensures) is;
}

pub returns-clause-taken : goal.returns-clause-taken
returns-clause-taken g c = let there = c.entry-there.ensures in record {
  taken = other_goes c.args.moved c.entry-there.result (sym c.if-is_one.ensures) ∙ ap (replaced (Some c.args.moved)) there.found;
  kinds = λ is. ap (may_end true) (sym there.found) ∙ kind_replaced (g.S.Store.tree c.args.store.now) c.args.moved c.entry-there.result c.in_ok-check_replaceable.ensures.ok is;
}

pub returns-clause-settled : goal.returns-clause-settled
returns-clause-settled g c = let t = g.S.Store.tree c.args.store.now in record {
  does = search rules;
  can = (
    c.requires.source,
    may_stand t c.args.to.dir c.args.to.name.bytes.now c.args.moved c.entry-there.result c.requires.held c.requires.lives c.is_inside.ensures c.in_ok-refuse-2.ensures.ok
        (sym c.if-is_one.ensures) c.entry-there.ensures.target c.entry-there.ensures.lives c.in_ok-check_replaceable.ensures.ok,
  );
  keys = renamed_keys t c.args.from.dir c.args.from.name.bytes.now c.args.to.dir c.args.to.name.bytes.now c.args.moved
      c.entry-there.result c.reparents.result c.lost_there.result c.requires.source c.requires.lives c.entry-there.ensures.target
      (sym c.if-is_one.ensures) c.reparents.ensures c.lost_there.ensures;
  loses = c.lost_there.ensures ∙ ap (λ o. with_number o (keys_gone t)) c.entry-there.ensures.target;
}

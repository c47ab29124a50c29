use Rattle.std.proofs.Common.{ap, ◌∙◌}
use Rattle.dc_plain.specs.KeysShown.{keys_in}
use Rattle.dc_ops.proofs.Goes.{lost_if, lost_none}
use Rattle.dc_ops.proofs.takes.lost_key.Goals as goal

pub returns-in_err-key : goal.returns-in_err-key
returns-in_err-key g c = ap keys_in c.from_residual.ensures ∙ lost_none (g.S.Store.tree c.args.store.now) c.args.target c.requires.lives c.in_err-key.ensures

pub returns : goal.returns
returns g c = ap keys_in c.then_some.ensures ∙ lost_if (g.S.Store.tree c.args.store.now) c.args.target c.requires.lives c.in_ok-key.key c.in_ok-key.ensures c.has_one_name.result c.has_one_name.ensures

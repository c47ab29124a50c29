use Rattle.std.proofs.Common.{sym, ◌∙◌}
use Rattle.dc_ops.proofs.Goes.{single}
use Rattle.dc_ops.proofs.takes.has_one_name.Goals as goal

pub returns-then-is_directory : goal.returns-then-is_directory
returns-then-is_directory g c =
    c.if-is_directory.true ∙ sym (single (g.S.Store.tree c.args.store.now) c.args.target c.requires.well c.requires.lives c.requires.named (sym c.if-is_directory.ensures))

use Rattle.std.proofs.Common.{rules}
use Rattle.dc_plain.proofs.Wheres.{placed_on}
use Rattle.dc_plain.proofs.plain.PlainTree.place_on.Goals as goal

pub returns-in_err-dir : goal.returns-in_err-dir
returns-in_err-dir c =
    rw (placed_on c.args.self.now.tree c.args.base c.args.path.bytes.now c.in_ok-all.all.items c.pop.new.self.items c.in-Some.last c.in_ok-all.ensures c.in-Some.ensures.items) (search rules)

pub returns : goal.returns
returns c =
    rw (placed_on c.args.self.now.tree c.args.base c.args.path.bytes.now c.in_ok-all.all.items c.pop.new.self.items c.in-Some.last c.in_ok-all.ensures c.in-Some.ensures.items, c.into.ensures, c.has_end_slash.ensures) (search rules)

use Rattle.std.proofs.Common.{arith}
use Rattle.dc_plain.specs.KeysShown.{key_shown}
use Rattle.dc_walk.specs.Rooms.{used_at}
use Rattle.dc_walk.proofs.Fronts.{told_so}
use Rattle.dc_walk.proofs.used.Room.told_at.Goals as goal

pub returns-then-tells_at : goal.returns-then-tells_at
returns-then-tells_at c t all =
    told_so c.words_have_the_fact_they_spell.ensures t (used_at c.args.self.now.items c.args.at) (key_shown c.args.key) c.target_at.result c.requires.entry
    (all c.args.at (omega (arith, c.if-at-len.true, c.len.ensures.many))) (c.tells_at.ensures.0 c.if-tells_at.true) c.target_at.ensures

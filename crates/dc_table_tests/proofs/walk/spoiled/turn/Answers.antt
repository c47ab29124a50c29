use Rattle.std.proofs.Common.{arith, rules, get_or, drop}
use Rattle.dc_table.specs.Passes.{view}
use Rattle.dc_walk.specs.Probes.{note_of}
use Rattle.dc_table_tests.proofs.ByHand.{by_hand, after_check, can_third}
use Rattle.dc_walk.proofs.Probed.{rest_size}
use Rattle.dc_table_tests.proofs.walk.spoiled.turn.Goals as goal

pub check-third-requires : goal.check-third-requires
check-third-requires g c =
    let e = c.in-Ok.ensures in let last = c.in-Ok.last in let path = c.args.path.now in
    let x = note_of 0 c.args.noted.now.0 in let y = note_of 1 c.args.noted.now.1 in
    let turned = by_hand 1 path (view c.args.pass.now) (view c.read_row.new.pass) (view c.pivot-at.new.pass) x y 2 (get_or last 0 0) c.pivot-at.result (drop 1 last) c.requires.noted e.read c.pivot-at.ensures.view in
    let once = after_check 1 path turned 0 0 (get_or c.args.noted.now.0 0 0) (omega arith) (view c.check-first.new.pass) c.check-first.result c.check-first.ensures.checked c.check-first.ensures.changed in
    let twice = after_check 1 path once 1 1 (get_or c.args.noted.now.1 0 0) (omega arith) (view c.check-second.new.pass) c.check-second.result c.check-second.ensures.checked c.check-second.ensures.changed in
    record { can = (search rules, can_third 1 path twice (rest_size last e.whole)) }

use Rattle.std.proofs.Common.{refl, arith}
use Rattle.dc_hold.proofs.Written.{put_at}
use Rattle.dc_hold.proofs.buffer.put_name.Goals as goal

pub returns-clause-next : goal.returns-clause-next
returns-clause-next c =
    let fits = c.if-name-left.false in
    (refl, omega arith, put_at c.args.buffer.now c.args.name.now c.copy_from_slice.new.self c.args.at _ _ refl refl (omega arith) c.copy_from_slice.ensures.after)

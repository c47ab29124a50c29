use Rattle.std.proofs.Common.{◌≡◌, ℕ, ◌+◌, length, rules}
use Rattle.dc_ops.proofs.Climbing.{put_so}
use Rattle.dc_ops.proofs.whereabouts.put_before.Goals as goal

pub returns-clause-put : goal.returns-clause-put
returns-clause-put c =
    let before : c.in_ok-start.start + 1 + length c.args.name.now ≡ c.args.place = search rules in
    put_so c.args.bytes.now c.put_at.new.bytes c.put_at-2.new.bytes c.in_ok-start.start c.args.place c.args.name.now before c.requires c.put_at.ensures.put c.put_at-2.ensures.put

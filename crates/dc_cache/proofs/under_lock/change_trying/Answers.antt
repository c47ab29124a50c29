use Rattle.std.proofs.Common.{◌∙◌, sym}
use Rattle.dc_plain.specs.Requests.{request_of}
use Rattle.dc_rows.specs.Guards.{kept_by}
use Rattle.dc_cache.proofs.Takes.{makes_once, plans_live}
use Rattle.dc_cache.proofs.under_lock.change_trying.Goals as goal

pub returns-in-Ok-clause-made : goal.returns-in-Ok-clause-made
returns-in-Ok-clause-made g c = let found = c.find_front-found in let got = c.in-Ok.ensures.got in let still = c.still_known-known in let back = c.change_planned-back in
    makes_once c.args.telling c.args.seat.now _ found.new.pass back.result.0 c.in-Ok.guard still.new.guard (request_of c.args.call.now) c.plan-planned.result back.result.1 c.going-gone.result c.store.result.now
    found.ensures.same found.ensures.nothing got.1 still.ensures.same (c.seat-1.given.1 (sym (back.ensures.back.same_reference ∙ still.ensures.same.holder.held.same_reference ∙ got.0))) back.ensures.back
    back.ensures.made c.store.ensures c.plan-planned.ensures c.going-gone.ensures

pub going-gone-requires : goal.going-gone-requires
going-gone-requires g c =
    let h = c.still_known-known.new.guard in
    record { lives = plans_live (kept_by h).max_inodes (kept_by h).store c.store.result.now (request_of c.args.call.now) c.plan-planned.result c.store.ensures c.plan-planned.ensures }

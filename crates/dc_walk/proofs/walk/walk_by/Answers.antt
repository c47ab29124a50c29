use Rattle.std.proofs.Common.{length, map, sym}
use Rattle.std.proofs.lemmas.List.{length-map}
use Rattle.dc_plain.specs.Requests.{answer_of}
use Rattle.dc_table.specs.Passes.{view}
use Rattle.dc_walk.specs.Findings.{buckets_of, view_in}
use Rattle.dc_walk.specs.Finds.{use_shown}
use Rattle.dc_walk.proofs.Answered.{walked, gave_up}
use Rattle.dc_walk.proofs.walk.walk_by.Goals as goal

pub returns-in-Ok-clause-walks : goal.returns-in-Ok-clause-walks
returns-in-Ok-clause-walks g c = let a = c.args in let items = c.walk_rows.new.used.items in
    walked g.S.Source.locks a.look (buckets_of a.pass.now) (view a.pass.now) (view c.settle.new.pass) (view_in c.in-Ok.begun c.walk_rows.new.pass a.look) (map use_shown items) (answer_of c.in-Ok.reply)
    (length items) (sym (length-map items use_shown)) c.in-Ok.ensures.went c.settle.result c.settle.ensures.settles

pub returns-in-Err-clause-walks : goal.returns-in-Err-clause-walks
returns-in-Err-clause-walks g c = gave_up g.S.Source.locks c.args.look (buckets_of c.args.pass.now) (view c.args.pass.now) (view c.walk_rows.new.pass) (map use_shown c.walk_rows.new.used.items) c.in-Err.stop.why c.in-Err.ensures.stopped

use Rattle.dc_plain.specs.declared.key.Label.TheVariants as labels
use Rattle.dc_walk.proofs.Tops.{put_takes}
use Rattle.dc_walk.proofs.row.take_in.Goals as goal

pub returns-in-Name-label-clause-takes : goal.returns-in-Name-label-clause-takes
returns-in-Name-label-clause-takes c = let put = c.put.ensures in put_takes c.args.pass.now c.take_long.new.pass c.args.noted c.args.room.now c.put.new.self c.take_long.new.room c.args.sought.now.key (labels.Name c.in-Name-label.name) c.args.brief c.take_long.result c.in-Name-label.is put.first put.same.0 put.same.1 c.take_long.ensures.takes

pub returns-in-DotDot-clause-takes : goal.returns-in-DotDot-clause-takes
returns-in-DotDot-clause-takes c = let put = c.put.ensures in put_takes c.args.pass.now c.take_bare.new.pass c.args.noted c.args.room.now c.put.new.self c.take_bare.new.room c.args.sought.now.key labels.DotDot c.args.brief c.take_bare.result c.in-DotDot.is put.first put.same.0 put.same.1 c.take_bare.ensures.takes

pub returns-in-Text-clause-takes : goal.returns-in-Text-clause-takes
returns-in-Text-clause-takes c = let put = c.put.ensures in put_takes c.args.pass.now c.take_bare-in-Text.new.pass c.args.noted c.args.room.now c.put.new.self c.take_bare-in-Text.new.room c.args.sought.now.key labels.Text c.args.brief c.take_bare-in-Text.result c.in-Text.is put.first put.same.0 put.same.1 c.take_bare-in-Text.ensures.takes

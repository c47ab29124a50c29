use Rattle.std.proofs.Common.{rules}
use Rattle.dc_lang.specs.Commands.{said_by}
use Rattle.dc_serve.specs.Endings.{Answers, Understood, streams}
use Rattle.dc_serve.proofs.Ended.{plainly, serving_ends, unflushed}
use Rattle.dc_serve.proofs.running.run.Goals as goal

pub returns-in-Ok-clause-plain : goal.returns-in-Ok-clause-plain
returns-in-Ok-clause-plain g c =
    let all : Answers c.args.options.inodes (streams (g.R.Read.remaining c.args.reader.now) (g.R.Read.remaining c.understand.new.reader) (g.W.Write.contents c.args.writer.now) (g.W.Write.contents c.flush.new.self)) = search rules in
    plainly _ _ all

pub returns-clause-err : goal.returns-clause-err
returns-clause-err g c =
    let all : Answers c.args.options.inodes (streams (g.R.Read.remaining c.args.reader.now) (g.R.Read.remaining c.understand.new.reader) (g.W.Write.contents c.args.writer.now) (g.W.Write.contents c.flush.new.self)) = search rules in
    unflushed _ _ all

pub returns-in_err-serve-clause-err : goal.returns-in_err-serve-clause-err
returns-in_err-serve-clause-err g c =
    let good : Understood (streams (g.R.Read.remaining c.args.reader.now) (g.R.Read.remaining c.understand.new.reader) (g.W.Write.contents c.args.writer.now) (g.W.Write.contents c.serve.new.writer)) (said_by c.deref.result.now) = search rules in
    let ends = serving_ends c.args.options.inodes (streams (g.R.Read.remaining c.args.reader.now) (g.R.Read.remaining c.understand.new.reader) (g.W.Write.contents c.args.writer.now) (g.W.Write.contents c.serve.new.writer)) _ c.in_err-serve.field-0.0 good c.in_err-serve.ensures.err in search rules

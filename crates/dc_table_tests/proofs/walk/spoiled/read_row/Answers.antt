use Rattle.std.proofs.Common.{arith, rules, ◌∙◌, ap, get_or, length-set}
use Rattle.dc_events.specs.Effects.{begins}
use Rattle.dc_plain.specs.Requests.{request_of}
use Rattle.dc_table.specs.Passes.{view}
use Rattle.dc_walk.specs.Probes.{probed}
use Rattle.dc_walk.proofs.Probed.{can_read, next_read, read_whole}
use Rattle.dc_walk.proofs.Seats.{fits_still, row_still, stays_again}
use Rattle.dc_table_tests.proofs.walk.spoiled.read_row.Goals as goal

pub read_word-requires : goal.read_word-requires
read_word-requires g c = let i = c.loop-i.invariant in record {
  can = (
    record { fits = i.fits; idle = i.stays.idle; inside = row_still c.requires.row i.stays.same },
    can_read (begins c.args.first (view c.args.pass.now) (request_of c.args.call.now)) (view c.loop-i.pass) c.args.row c.loop-i.i c.loop-i.words i.size (omega (arith, c.loop-i.auto.i)) c.loop-i-test.true i.read c.requires.early.busy c.requires.early.fresh,
  );
}

pub loop-i-preserved : goal.loop-i-preserved
loop-i-preserved g c = let i = c.loop-i.invariant in let e = c.read_word.ensures in record {
  fits = fits_still i.fits e.same.same;
  stays = stays_again i.stays e.same;
  other = search rules;
  size = length-set c.loop-i.words c.loop-i.i c.read_word.result ∙ i.size;
  read = next_read (begins c.args.first (view c.args.pass.now) (request_of c.args.call.now)) (view c.loop-i.pass) c.args.row c.loop-i.i c.loop-i.words i.size (omega (arith, c.loop-i.auto.i)) c.loop-i-test.true i.read (view c.read_word.new.pass) c.read_word.result e.view;
}

pub returns-then-all-clause-read : goal.returns-then-all-clause-read
returns-then-all-clause-read g c = let i = c.loop-i.invariant in
    i.read ∙ ap (probed (begins c.args.first (view c.args.pass.now) (request_of c.args.call.now)) c.args.row (get_or c.loop-i.words 0 0)) (read_whole c.loop-i.words i.size c.loop-i.i (omega (arith, c.loop-i-test.false, c.loop-i.auto.i-end (omega arith))))

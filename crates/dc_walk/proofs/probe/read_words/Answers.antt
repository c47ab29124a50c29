use Rattle.std.proofs.Common.{arith}
use Rattle.dc_table.specs.Passes.{view}
use Rattle.dc_walk.proofs.Probed.{can_read_from, reads_one}
use Rattle.dc_walk.proofs.Seats.{fits_still, stays_again, walker_still}
use Rattle.dc_walk.proofs.probe.read_words.Goals as goal

pub read_word-requires : goal.read_word-requires
read_word-requires c = let i = c.loop-i.invariant in let some = c.requires.some in let begun = c.loop-i.auto.i in let more = c.loop-i-test.true in
    record { can = (walker_still c.requires.pass.0 c.requires.row i.stays, can_read_from (omega arith) (omega arith) i.words) }

pub loop-i-preserved : goal.loop-i-preserved
loop-i-preserved c = let i = c.loop-i.invariant in let e = c.read_word.ensures in
    let some = c.requires.some in let begun = c.loop-i.auto.i in let more = c.loop-i-test.true in record {
      fits = fits_still i.fits e.same.same;
      stays = stays_again i.stays e.same;
      words = reads_one begun (omega arith) (omega arith) (view c.read_word.new.pass) c.read_word.result e.view i.words;
    }

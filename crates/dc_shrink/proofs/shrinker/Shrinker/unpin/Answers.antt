use Rattle.std.proofs.Common.{◌≡◌, ◌∙◌, ap, not, arith}
use Rattle.std.proofs.lemmas.Result.{on_ok_weaker, on_err_weaker}
use Rattle.dc_shrink.specs.Listings.{pins_of}
use Rattle.dc_shrink.proofs.Pinned.{left_out, listed_again, out_as}
use Rattle.dc_shrink.proofs.shrinker.Shrinker.unpin.Goals as goal

pub add-requires-clause-unused : goal.add-requires-clause-unused
add-requires-clause-unused c = ap not c.remove.ensures.unused.here

pub returns-clause-unpinned : goal.returns-clause-unpinned
returns-clause-unpinned c = let one : pins_of c.args.self.now c.args.row ≡ 1 = omega arith in
    let out = out_as c.args.self.now c.args.row c.requires c.pins-pins.ensures.valid c.remove.ensures.dropped in
    rw one (rw out at c.add.ensures.first)

pub returns-clause-same_use : goal.returns-clause-same_use
returns-clause-same_use c = on_ok_weaker c.add.result (λ u. listed_again c.args.self.now c.args.row c.requires c.remove.ensures.unused u) c.add.ensures.used

pub returns-clause-last : goal.returns-clause-last
returns-clause-last c = let one : pins_of c.args.self.now c.args.row ≡ 1 = omega arith in
    on_err_weaker c.add.result (λ e. one) c.add.ensures.err

pub returns-clause-dropped : goal.returns-clause-dropped
returns-clause-dropped c = on_err_weaker c.add.result (λ e. e ∙ c.remove.ensures.dropped) c.add.ensures.err

pub returns-clause-unused : goal.returns-clause-unused
returns-clause-unused c = on_err_weaker c.add.result (λ e. left_out c.args.self.now c.args.row c.requires c.remove.ensures.unused e) c.add.ensures.err

use Rattle.std.proofs.Common.{refl, to_z-of_z, SFits, w32, rules}
use Rattle.dc_hold.specs.Trails.{MayFindAlong, tells_fast_along}
use Rattle.dc_c.specs.Trails.{ShowsTrail}
use Rattle.dc_c.proofs.Answering.{called, meant, shown}
use Rattle.dc_c.proofs.along.gb_look_fast_along.Goals as goal

pub returns : goal.returns
returns c =
    let fits : SFits w32 c.tell.result = search rules in
    let how = c.in-Some.follow in
    let got = c.look_fast_along-fast in
    record {
      looks = meant _ how _ _ c.in-Some.ensures
          (called (MayFindAlong c.args.base c.args.path.now how c.args.trail.now) (ShowsTrail tells_fast_along) c.args.pass.now c.put.new.self _ (c.args.found.now, c.args.trail.now) (c.tell.new.found, got.new.trail)
          c.in-Some-take.hold.value c.deref_mut.result.now got.new.self (got.result, got.new.trail) c.in-Some-take.ensures.taken c.deref_mut.ensures.value c.put.ensures
          got.ensures.told
          (record { found = shown _ _ _ _ _ c.told_fast_along.ensures c.tell.ensures (to_z-of_z fits); trail = refl }));
    }

use Rattle.std.proofs.Common.{to_z-of_z, SFits, w32, rules}
use Rattle.dc_cache.specs.Passes as passes
use Rattle.dc_hold.specs.Allowed.{MayShrink}
use Rattle.dc_c.specs.Shapes.{ShowsMany}
use Rattle.dc_c.proofs.Answering.{called, tried, besides, as_told}
use Rattle.dc_c.proofs.passes.gb_try_shrink.Goals as goal

pub returns : goal.returns
returns c =
    let fits : SFits w32 c.tell_many.result = search rules in
    let got = c.try_shrink-tried in let before = c.args.emptied.now in let after = c.tell_many.new.emptied in
    record {
      shrinks = called (MayShrink c.args.most) (ShowsMany before) c.args.pass.now c.put.new.self _ before after
          c.in-Some.hold.value c.deref_mut.result.now got.new.self got.result c.in-Some.ensures.taken c.deref_mut.ensures.value c.put.ensures
          (tried _ _ got.result (besides (λ many. passes.Shrinks c.args.most many got.new.self.pass) _ got.result got.ensures.nothing got.ensures.rows) got.ensures.held)
          (as_told (λ n. ShowsMany before got.result n after) (to_z-of_z fits) c.tell_many.ensures);
    }

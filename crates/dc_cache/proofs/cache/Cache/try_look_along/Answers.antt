use Rattle.std.proofs.Common.{sym, ap, ◌∙◌}
use Rattle.dc_table.specs.RowStates.{RowState}
use Rattle.dc_cache.proofs.Alongs.{along_back, along_with}
use Rattle.dc_cache.proofs.Takes.{rows_got}
use Rattle.dc_cache.proofs.Tellings.{nothing_took}
use Rattle.dc_cache.proofs.cache.Cache.try_look_along.Goals as goal

pub returns-in-Ok-clause-told : goal.returns-in-Ok-clause-told
returns-in-Ok-clause-told g c = let back = c.look_held-back in let got = c.in-Ok.ensures.got in
    along_back c.args.base c.args.path.bytes.now c.args.follow _ _ _ _ _ _ back.result.1 (c.pass-1.given.1 (sym (back.ensures.back.same_reference ∙ got.0))) (ap (λ (s : RowState). s.history) (rows_got _ _ _ got.1.took ∙ sym back.ensures.back.got))
    (along_with c.args.base c.args.path.bytes.now c.args.follow _ _ _ _ _ _ _ back.result.1 got.1.same.same_share (nothing_took _ _ _ got.1.took) back.ensures.told)

use Rattle.std.proofs.Common.{sym, ap, ◌∙◌}
use Rattle.dc_plain.specs.Requests.{request_of}
use Rattle.dc_table.specs.RowStates.{RowState}
use Rattle.dc_cache.proofs.Takes.{rows_got}
use Rattle.dc_cache.proofs.Tellings.{nothing_took, told_back, told_with}
use Rattle.dc_cache.proofs.cache.Cache.try_tell.Goals as goal

pub returns-in-Ok-clause-told : goal.returns-in-Ok-clause-told
returns-in-Ok-clause-told g c = let back = c.ask-back in let got = c.in-Ok.ensures.got in
    told_back _ _ _ _ _ (request_of c.args.call.now) back.result.1 (c.pass-1.given.1 (sym (back.ensures.back.same_reference ∙ got.0))) (ap (λ (s : RowState). s.history) (rows_got _ _ _ got.1.took ∙ sym back.ensures.back.got))
    (told_with _ _ _ _ _ _ (request_of c.args.call.now) back.result.1 got.1.same.same_share (nothing_took _ _ _ got.1.took) back.ensures.told)

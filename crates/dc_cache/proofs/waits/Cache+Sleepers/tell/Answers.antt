use Rattle.std.proofs.Common.{sym, ap, ◌∙◌}
use Rattle.dc_plain.specs.Requests.{request_of}
use Rattle.dc_table.specs.RowStates.{RowState}
use Rattle.dc_cache.proofs.Takes.{rows_got}
use Rattle.dc_cache.proofs.Tellings.{nothing_took, told_back, told_with}
use Rattle.dc_cache.proofs.waits.Cache+Sleepers.tell.Goals as goal

pub returns-clause-told : goal.returns-clause-told
returns-clause-told g c = let back = c.ask-back in let taken = c.lock-guard.ensures in
    told_back _ _ _ _ _ (request_of c.args.call.now) back.result.1 (c.pass-1.given.1 (sym (back.ensures.back.same_reference ∙ taken.same_reference))) (ap (λ (s : RowState). s.history) (rows_got _ _ _ taken.locked.took ∙ sym back.ensures.back.got))
    (told_with _ _ _ _ _ _ (request_of c.args.call.now) back.result.1 taken.locked.same.same_share (nothing_took _ _ _ taken.locked.took) back.ensures.told)

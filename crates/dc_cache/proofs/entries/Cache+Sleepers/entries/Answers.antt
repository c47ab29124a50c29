use Rattle.std.proofs.Common.{sym, ap, ◌∙◌}
use Rattle.dc_table.specs.RowStates.{RowState}
use Rattle.dc_cache.specs.Pages.{asked_for}
use Rattle.dc_cache.proofs.Paged.{paged_back, paged_with}
use Rattle.dc_cache.proofs.Takes.{rows_got}
use Rattle.dc_cache.proofs.Tellings.{nothing_took}
use Rattle.dc_cache.proofs.entries.Cache+Sleepers.entries.Goals as goal

pub returns-clause-told : goal.returns-clause-told
returns-clause-told g c = let back = c.page-back in let taken = c.lock-guard.ensures in
    paged_back _ _ _ _ _ (asked_for c.args.asked) back.result.1 (c.pass-1.given.1 (sym (back.ensures.back.same_reference ∙ taken.same_reference))) (ap (λ (s : RowState). s.history) (rows_got _ _ _ taken.locked.took ∙ sym back.ensures.back.got))
    (paged_with _ _ _ _ _ _ (asked_for c.args.asked) back.result.1 taken.locked.same.same_share (nothing_took _ _ _ taken.locked.took) back.ensures.told)

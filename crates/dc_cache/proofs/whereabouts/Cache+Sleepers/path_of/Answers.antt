use Rattle.std.proofs.Common.{sym, ap, ◌∙◌}
use Rattle.dc_table.specs.RowStates.{RowState}
use Rattle.dc_cache.proofs.Takes.{rows_got}
use Rattle.dc_cache.proofs.Tellings.{nothing_took}
use Rattle.dc_cache.proofs.Wheres.{where_back, where_with}
use Rattle.dc_cache.proofs.whereabouts.Cache+Sleepers.path_of.Goals as goal

pub returns-clause-told : goal.returns-clause-told
returns-clause-told g c = let back = c.locate-back in let taken = c.lock-guard.ensures in
    where_back _ _ _ _ _ c.args.number _ back.result.1 (c.pass-1.given.1 (sym (back.ensures.back.same_reference ∙ taken.same_reference))) (ap (λ (s : RowState). s.history) (rows_got _ _ _ taken.locked.took ∙ sym back.ensures.back.got))
    (where_with _ _ _ _ _ _ c.args.number _ back.result.1 taken.locked.same.same_share (nothing_took _ _ _ taken.locked.took) back.ensures.told)

use Rattle.std.proofs.Common.{◌≡◌, ◌∙◌, ℕ, length, rules}
use Rattle.dc_cache.proofs.Wheres.{declines_told, mid_whole, none_told, path_told}
use Rattle.dc_cache.proofs.whereabouts.locate.Goals as goal

pub answer-back-requires-clause-declines : goal.answer-back-requires-clause-declines
answer-back-requires-clause-declines g c =
    let whole : length c.path_of.new.buffer ≡ 4095 = search rules in
    declines_told _ _ c.args.number _ _ c.store.ensures (mid_whole c.in-Ok.start c.path_of.new.buffer whole) c.in-Ok.ensures.found

pub returns-in-Ok-clause-told : goal.returns-in-Ok-clause-told
returns-in-Ok-clause-told g c =
    let whole : length c.path_of.new.buffer ≡ 4095 = search rules in
    path_told _ _ _ _ c.args.number _ c.in-Ok.start _ _ _ _ (c.store.ensures ∙ c.args.guard.rests.tree) c.in-Ok.ensures.path c.answer-back.ensures.same (mid_whole c.in-Ok.start c.path_of.new.buffer whole) c.answer-back.ensures.recorded

pub returns-in-Err-clause-told : goal.returns-in-Err-clause-told
returns-in-Err-clause-told g c = none_told _ _ _ _ c.args.number c.in-Err.refusal _ _ _ (c.store.ensures ∙ c.args.guard.rests.tree) c.in-Err.ensures.refused c.seek-back.ensures.recorded

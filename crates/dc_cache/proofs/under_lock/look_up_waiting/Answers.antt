use Rattle.std.proofs.Common.{ℕ, [], Ok, sym, refl, ◌∙◌}
use Rattle.dc_walk.specs.Looks.{look_shown}
use Rattle.dc_cache.proofs.Tellings.{nothing_took, told_back, told_with}
use Rattle.dc_cache.proofs.under_lock.look_up_waiting.Goals as goal

pub returns-clause-recorded : goal.returns-clause-recorded
returns-clause-recorded g c = let back = c.look_up-back in let taken = c.lock-guard.ensures in let call = look_shown c.args.look in
    told_back {E = ℕ} 0 _ _ _ _ call (Ok back.result.1) (c.seat-1.given.1 (sym (back.ensures.back.same_reference ∙ taken.same_reference))) refl
    (told_with {E = ℕ} _ _ [] _ _ _ call (Ok back.result.1) taken.locked.same.same_share (nothing_took _ _ _ taken.locked.took) back.ensures.recorded)

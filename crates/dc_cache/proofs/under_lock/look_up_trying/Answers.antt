use Rattle.std.proofs.Common.{ℕ, [], Ok, sym, refl, ◌∙◌}
use Rattle.dc_walk.specs.Looks.{look_shown}
use Rattle.dc_cache.proofs.Tellings.{nothing_took, told_back, told_with}
use Rattle.dc_cache.proofs.under_lock.look_up_trying.Goals as goal

pub returns-in-Ok-clause-recorded : goal.returns-in-Ok-clause-recorded
returns-in-Ok-clause-recorded g c = let back = c.look_up-back in let got = c.in-Ok.ensures.got in let call = look_shown c.args.look in
    told_back {E = ℕ} 0 _ _ _ _ call (Ok back.result.1) (c.seat-1.given.1 (sym (back.ensures.back.same_reference ∙ got.0))) refl
    (told_with {E = ℕ} _ _ [] _ _ _ call (Ok back.result.1) got.1.same.same_share (nothing_took _ _ _ got.1.took) back.ensures.recorded)

use Rattle.std.proofs.Common.{ℕ, ap, sym, ◌∙◌, subst, position, refl}
use Rattle.std.specs.Option.{option_or}
use Rattle.dc_plain.specs.KeysShown.{key_shown}
use Rattle.dc_index.specs.Slots.{is_free}
use Rattle.dc_index.specs.Choices.{AgreeIn, first_free, slots_in}
use Rattle.dc_index.proofs.Chosen.{choice_safe, if_some, some_within}
use Rattle.dc_index.proofs.index.Index.choose.Goals as goal

pub returns-clause-safe : goal.returns-clause-safe
returns-clause-safe c = let agree = subst (λ (b : ℕ). AgreeIn b c.args.self.now c.args.shrinker.now) (sym c.bucket-bucket.ensures.bucket) c.requires in
    let chosen = c.or.ensures ∙ ap (λ o. option_or o c.victim_of.result) c.first_free.ensures.row ∙ ap (λ v. option_or (first_free c.args.self.now c.bucket-bucket.result) v) c.victim_of.ensures.victim in
    if_some c.or.result (λ row e. choice_safe c.first_free.ensures.valid c.victim_of.ensures.valid (key_shown c.args.key.now.key) c.bucket-bucket.result c.bucket-bucket.ensures.bucket c.bucket-bucket.ensures.within agree
    (position is_free (slots_in c.args.self.now c.bucket-bucket.result)) refl row (sym chosen ∙ e))

pub returns-clause-within : goal.returns-clause-within
returns-clause-within c = some_within c.first_free.ensures.valid c.args.shrinker.now (key_shown c.args.key.now.key) c.or.result (returns-clause-safe c)

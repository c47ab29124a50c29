use Rattle.std.proofs.Common.{◌≡◌, ◌<◌, ◌∷◌, ◌++◌, [], cond, false, length, take, ap, sym, rules, ◌∙◌}
use Rattle.std.proofs.lemmas.List.{take_more_set}
use Rattle.dc_trail.specs.Questions.{is_among}
use Rattle.dc_trail.proofs.trailed.enter.Goals as goal

pub returns-clause-entered : goal.returns-clause-entered
returns-clause-entered c =
    let seen = take c.args.len c.args.numbers.now in
    let new : is_among seen c.args.dir ≡ false = search rules in
    let some : c.args.len < length c.args.numbers.now = search rules in
    (search rules, take_more_set c.args.numbers.now c.args.len c.args.dir some ∙ sym (ap (λ b. cond b seen (seen ++ c.args.dir ∷ [])) new))

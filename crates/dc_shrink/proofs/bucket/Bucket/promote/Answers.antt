use Rattle.std.proofs.Common.{◌≡◌, sym, ◌∙◌, nat_eq, length, filter, tests, rules, arith}
use Rattle.std.proofs.lemmas.Iterator.{YieldsList-from_slice}
use Rattle.std.proofs.lemmas.Iterator.Search.{position_from_yields_List}
use Rattle.dc_shrink.proofs.Promoted.{turned, found_at, found_none}
use Rattle.dc_shrink.proofs.bucket.Bucket.promote.Goals as goal

pub returns-in-Some : goal.returns-in-Some
returns-in-Some c = let is = sym c.in-Some.is ∙ position_from_yields_List (nat_eq c.args.row) _ _ c.position.result c.position.ensures.ran (YieldsList-from_slice c.self.inside.rows cc) (λ x b q k. search (rules, tests)) in
    let rows = c.self.inside.rows in
    rw (← c.self.view_is) (turned c.args.row rows c.in-Some.at (found_at c.args.row c.in-Some.at rows is) (rw (← c.self.view_is) at c.requires) c.rotate_right.new.self c.rotate_right.ensures.after)

pub returns-in_default : goal.returns-in_default
returns-in_default c = let is = sym c.in_default.is ∙ position_from_yields_List (nat_eq c.args.row) _ _ c.position.result c.position.ensures.ran (YieldsList-from_slice c.args.self.now cc) (λ x b q k. search (rules, tests)) in
    let none : length (filter (nat_eq c.args.row) c.args.self.now) ≡ 0 = found_none c.args.row c.args.self.now is in absurd (omega arith)

use Rattle.std.proofs.Common.{◌≡◌, ◌++◌, [], ◌∷◌, sym, subst, rules}
use Rattle.dc_row.specs.Rows.{row_shown}
use Rattle.dc_row.specs.Spelling.{Spells}
use Rattle.dc_core.specs.Told.{AreRows}
use Rattle.dc_core.proofs.Told.{are_rows-snoc, one_told}
use Rattle.dc_core.proofs.facts.push_row.Goals as goal

pub returns-clause-facts : goal.returns-clause-facts
returns-clause-facts c = let x = c.args.note.now in let row = c.in-Some.row in
    let spells : Spells x.words.items (row_shown row) = subst (λ ws. Spells ws (row_shown row)) c.deref.ensures.value c.in-Some.ensures.spelled in
    one_told c.words_have_the_fact_they_spell.ensures c.args.rows.now.items c.push.new.self.items row x (search rules) (search rules) x.counted spells

pub returns-clause-rows : goal.returns-clause-rows
returns-clause-rows c = let row = c.in-Some.row in let old = c.args.rows.now.items in
    let items : c.push.new.self.items ≡ old ++ row ∷ [] = search rules in
    subst AreRows (sym items) (are_rows-snoc old row c.requires.rows c.in-Some.ensures.spelled.allowed)

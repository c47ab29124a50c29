use Rattle.std.proofs.Common.{◌≡◌, ◌-◌, drop, length, take, arith, subst, sym, ◌∙◌}
use Rattle.std.proofs.lemmas.Slice.Eq.{bytes_eq-Decides}
use Rattle.dc_row.specs.Rows.{row_shown}
use Rattle.dc_row.specs.Spelling.{Spells}
use Rattle.dc_names.specs.declared.limits.TheConstants.{ROW_WORDS}
use Rattle.dc_row.proofs.Compared.{spells_too, spelled_alike}
use Rattle.dc_row.proofs.reading.decode.Goals as goal

pub returns-then-eq-clause-spelled : goal.returns-then-eq-clause-spelled
returns-then-eq-clause-spelled c =
    let same = (bytes_eq-Decides (take (ROW_WORDS - 1) (drop 1 c.in_ok-spelled.spelled)) (take (length c.args.words.now - 1) (drop 1 c.args.words.now))).0 (sym c.eq.ensures ∙ c.if-eq.true) in
    spells_too (ROW_WORDS - 1) (length c.args.words.now - 1) c.in_ok-spelled.ensures.spelled (omega arith) (omega arith) (omega arith) same

pub returns-else-eq-clause-any : goal.returns-else-eq-clause-any
returns-else-eq-clause-any c = λ fact s.
    let is : row_shown c.in_ok-row.row ≡ fact = let yes = c.in_ok-row.ensures fact s in cc in
    let size : length c.args.words.now - 1 ≡ ROW_WORDS - 1 = omega arith in
    let alike = spelled_alike (subst (Spells c.in_ok-spelled.spelled) is c.in_ok-spelled.ensures.spelled) s in
    let same = (bytes_eq-Decides (take (ROW_WORDS - 1) (drop 1 c.in_ok-spelled.spelled)) (take (length c.args.words.now - 1) (drop 1 c.args.words.now))).1 (λ i. take (sym size i) (alike i)) in
    let differ = sym c.eq.ensures ∙ c.if-eq.false in absurd (cc)

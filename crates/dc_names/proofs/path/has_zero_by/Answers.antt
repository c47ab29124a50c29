use Rattle.std.proofs.Common.{rules, tests, ℕ, ◌==◌, ◌/◌, length, ap, ◌∙◌}
use Rattle.std.specs.List.{list_any}
use Rattle.std.proofs.lemmas.Iterator.{YieldsList-from_slice}
use Rattle.std.proofs.lemmas.Iterator.Search.{any_from_yields_List}
use Rattle.dc_names.proofs.Chunks.{any_in_chunks, by_first, by_last, last_and_chunks}
use Rattle.dc_names.proofs.path.has_zero_by.Goals as goal

pub returns-then-is_any_zero : goal.returns-then-is_any_zero
returns-then-is_any_zero g c =
    let whole = last_and_chunks (λ b. b == 0) g.row.N c.args.bytes.now c.in_ok-last.last.now c.requires.0 c.in_ok-last.ensures.cases.1.same c.is_any_zero.result c.is_any_zero.ensures in
    by_last c.is_any_zero.result _ _ whole c.if-is_any_zero.true

pub returns-else-is_any_zero : goal.returns-else-is_any_zero
returns-else-is_any_zero g c =
    let p = λ (b : ℕ). b == 0 in
    let whole = last_and_chunks p g.row.N c.args.bytes.now c.in_ok-last.last.now c.requires.0 c.in_ok-last.ensures.cases.1.same c.is_any_zero.result c.is_any_zero.ensures in
    any_from_yields_List (λ chunk. list_any p chunk) _ _ _ c.any-zero.ensures.ran (YieldsList-from_slice c.as_chunks.result.0.now cc) (λ x r q called. search (rules, tests))
    ∙ ap (λ chunks. list_any (λ chunk. list_any p chunk) chunks) c.as_chunks.ensures.front
    ∙ any_in_chunks p g.row.N (length c.args.bytes.now / g.row.N) c.args.bytes.now
    ∙ by_first c.is_any_zero.result _ _ whole c.if-is_any_zero.false

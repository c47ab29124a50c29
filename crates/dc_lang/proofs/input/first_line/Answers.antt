use Rattle.std.proofs.Common.{◌∷◌, ℕ, ap, ◌∙◌, sym, List}
use Rattle.std.proofs.lemmas.List.{take_rest}
use Rattle.dc_lang.specs.Lines.{lines_of}
use Rattle.dc_lang.proofs.LinesLemmas.{line_length-le, cut_line, no_rest}
use Rattle.dc_lang.proofs.input.first_line.Goals as goal

pub split_at-requires : goal.split_at-requires
split_at-requires c = rw c.line_len.ensures (line_length-le c.args.bytes.now)

pub returns-then-is_empty-clause-lines : goal.returns-then-is_empty-clause-lines
returns-then-is_empty-clause-lines c =
    cut_line c.args.bytes.now _ _ c.line_len.result c.requires c.line_len.ensures c.split_at.ensures.front c.split_at.ensures.back
    ∙ ap (λ (r : List ℕ). c.split_at.result.0.now ∷ lines_of r) (no_rest c.split_at.result.1.now (sym c.is_empty.ensures ∙ c.if-is_empty.true))

pub returns-else-is_empty-clause-lines : goal.returns-else-is_empty-clause-lines
returns-else-is_empty-clause-lines c =
    cut_line c.args.bytes.now _ _ c.line_len.result c.requires c.line_len.ensures c.split_at.ensures.front c.split_at.ensures.back
    ∙ ap (λ (r : List ℕ). c.split_at.result.0.now ∷ lines_of r) (sym (take_rest c.split_at.result.1.now 1))

use Rattle.std.proofs.Common.{refl, sym, ◌∙◌, arith}
use Rattle.dc_names.specs.declared.limits.TheConstants.{ROW_WORDS}
use Rattle.dc_row.proofs.Empty.{no_word}
use Rattle.dc_row.proofs.Packed.{get_or-zeros}
use Rattle.dc_row.proofs.laws.empty_row_spells_nothing.Goals as goal

pub returns : goal.returns
returns c = record {
  size = refl;
  allowed = refl;
  bytes = λ i. omega arith;
  spelled = λ i pos lt. get_or-zeros ROW_WORDS i ∙ sym (no_word i);
}

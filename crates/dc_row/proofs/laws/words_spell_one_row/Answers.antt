use Rattle.dc_row.proofs.laws.words_spell_one_row.Goals as goal

pub returns : goal.returns
returns c = λ a b s t. let first = c.decode.ensures.any a s in let second = c.decode.ensures.any b t in cc

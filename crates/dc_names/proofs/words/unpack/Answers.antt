use Rattle.std.proofs.Common.{rules, ap, ◌∙◌}
use Rattle.dc_names.specs.Words.{bytes_in}
use Rattle.dc_names.proofs.Packed.{word_of-bytes_in, bytes_in-word_of}
use Rattle.dc_names.proofs.words.unpack.Goals as goal

pub returns-clause-bytes : goal.returns-clause-bytes
unfolding bytes_in
returns-clause-bytes c = search rules

pub returns-clause-back : goal.returns-clause-back
unfolding bytes_in
returns-clause-back c = rw c.to_le_bytes.ensures (word_of-bytes_in c.args.word c.ranges.word.fits)

pub returns-clause-undoes : goal.returns-clause-undoes
returns-clause-undoes c = λ bytes short are is. returns-clause-bytes c ∙ ap bytes_in is ∙ bytes_in-word_of bytes short are

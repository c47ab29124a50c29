use Rattle.std.proofs.Common.{take, ap, ◌∙◌, ℕ}
use Rattle.dc_row.specs.Spelling.{fields_of}
use Rattle.dc_row.proofs.Read.{length_is, text_fits, text_found}
use Rattle.dc_row.proofs.Texts.{front_of_room}
use Rattle.dc_row.proofs.reading.text_in.Goals as goal

pub returns : goal.returns
returns c = λ fact s.
    text_found _ (fields_of fact).text c.of.result c.of.ensures.bytes c.of.ensures.none
    (ap (λ (n : ℕ). take n c.room_of.result) (c.length-len.ensures ∙ length_is s) ∙ front_of_room s c.room_of.ensures) (text_fits s)

use Rattle.std.proofs.Common.{◌/◌, ◌%◌, Some, ap, sym, take, ◌∙◌, ℕ}
use Rattle.dc_row.specs.Rooms.{padded}
use Rattle.dc_row.proofs.Firsts.{wide_word}
use Rattle.dc_row.proofs.Read.{length_is}
use Rattle.dc_row.proofs.Texts.{front_of_room, room_padded, wide_room}
use Rattle.dc_row.proofs.reading.spelled_text.Goals as goal

pub from_room-requires-clause-zeros : goal.from_room-requires-clause-zeros
from_room-requires-clause-zeros c =
    let s = c.requires.spelled.2 in
    let room = wide_room c.room_of.ensures in
    let len = c.length.ensures ∙ ap (λ (w : ℕ). w / 256 % 65536) (sym (wide_word c.args.words.now 1)) ∙ length_is s in
    ap (λ (n : ℕ). padded (take n c.room_of.result)) len ∙ ap padded (front_of_room s room) ∙ room_padded s room

pub returns : goal.returns
returns c = record {
  told = λ n text s.
      let room = wide_room c.room_of.ensures in
      let len = c.length.ensures ∙ ap (λ (w : ℕ). w / 256 % 65536) (sym (wide_word c.args.words.now 1)) ∙ length_is s in
      ap Some (c.from_room.ensures ∙ ap (λ (n : ℕ). take n c.room_of.result) len ∙ front_of_room s room);
}

use Rattle.std.proofs.Common.{◌≡◌, ◌-◌, length, arith, rules}
use Rattle.dc_core.proofs.Acted.{note_room, read_few, read_some, room}
use Rattle.dc_core.specs.Machine.Act.{Read}
use Rattle.dc_core.proofs.state.State.next_word.Goals as goal

pub word_after-requires-clause-room : goal.word_after-requires-clause-room
word_after-requires-clause-room c =
    let len : c.len-last.result ≡ length c.index-one.result.now.notes.items = search rules in
    let some = read_some c.args.self.now c.args.actor c.index-one.result.now c.requires.may c.index-one.ensures in
    (note_room c.args.self.now c.requires.lives c.args.actor (c.len-last.result - 1) c.index-one.result.now c.index-note.result.now (room c.args.self.now c.args.actor Read c.requires.may) c.index-one.ensures (omega (arith, len, some)) c.index-note.ensures).0

pub word_after-requires-clause-few : goal.word_after-requires-clause-few
word_after-requires-clause-few c =
    let len : c.len-last.result ≡ length c.index-one.result.now.notes.items = search rules in
    let some = read_some c.args.self.now c.args.actor c.index-one.result.now c.requires.may c.index-one.ensures in
    read_few c.args.self.now c.requires.lives c.args.actor c.len-last.result c.index-one.result.now c.index-note.result.now c.requires.may c.index-one.ensures len (omega (arith, len, some)) c.index-note.ensures

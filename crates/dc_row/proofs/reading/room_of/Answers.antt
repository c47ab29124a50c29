use Rattle.std.proofs.Common.{arith, ◌∙◌}
use Rattle.std.proofs.lemmas.Grind.{common_steps}
use Rattle.dc_names.specs.Words.{bytes_in}
use Rattle.dc_row.proofs.Roomed.{has_all, has_more, has_none}
use Rattle.dc_row.proofs.reading.room_of.Goals as goal

pub loop-i-init : goal.loop-i-init
loop-i-init c = has_none c.args.words.now

pub loop-i-preserved : goal.loop-i-preserved
unfolding bytes_in
loop-i-preserved c =
    let bytes = c.copy_from_slice.ensures.after ∙ c.to_le_bytes.ensures in
    let few = c.requires.size in let begun = c.loop-i.auto.i in let size = c.loop-i.invariant.size in
    has_more c.args.words.now c.loop-i.room c.copy_from_slice.new.self c.loop-i.i _ c.loop-i.auto.i bytes (omega arith) (grind (arith, common_steps)) c.loop-i.invariant

pub returns : goal.returns
returns c = let done = c.loop-i-test.false in let end = c.loop-i.auto in has_all c.requires.size.0 (omega arith) c.loop-i.invariant

use Rattle.std.proofs.Common.{refl, sym, ◌∙◌}
use Rattle.dc_names.specs.Hash.{hash_of}
use Rattle.dc_names.proofs.Parts.{piece_end-le, cut_at, first_taken, valid_cut}
use Rattle.dc_names.proofs.components.first_part_hashed.Goals as goal

pub split_at-requires : goal.split_at-requires
split_at-requires c = rw c.hashed_piece-len.ensures.len (piece_end-le _)

pub part_of-requires-clause-part : goal.part_of-requires-clause-part
part_of-requires-clause-part c =
    (valid_cut (cut_at c.hashed_piece-len.ensures.len c.split_at.ensures.front c.split_at.ensures.back) (c.after_slashes-text.ensures.valid ∙ c.requires)).0

pub returns-else-is_empty-clause-first : goal.returns-else-is_empty-clause-first
returns-else-is_empty-clause-first c =
    first_taken c.after_slashes-text.ensures.parts (c.after_slashes-text.ensures.valid ∙ c.requires) c.after_slashes-text.ensures.rest
    (cut_at c.hashed_piece-len.ensures.len c.split_at.ensures.front c.split_at.ensures.back) (sym c.is_empty.ensures ∙ c.if-is_empty.false) c.part_of.ensures.part

pub returns-else-is_empty-clause-hash : goal.returns-else-is_empty-clause-hash
unfolding hash_of
returns-else-is_empty-clause-hash c = rw (c.hashed_piece-len.ensures.hash, c.hash_number.ensures, c.part_of.ensures.bytes, c.split_at.ensures.front) refl

use Rattle.std.proofs.Common.{sym, ◌∙◌}
use Rattle.dc_plain.specs.KeysShown.{key_shown}
use Rattle.dc_row.specs.Decoding.{target_by}
use Rattle.dc_row.proofs.Entries.{narrow_entry, wide_entry, wide_target}
use Rattle.dc_row.proofs.entry.is_entry_of.Goals.{then-not-is_target-via-then-not-is_target, then-not-is_target-via-else-not-is_target+then-not-has_room}
use Rattle.dc_row.proofs.entry.is_entry_of.Goals as goal

pub returns-clause-spelled : goal.returns-clause-spelled
returns-clause-spelled c told =
    let t = target_by c.kind-kind.result c.value-value.result in let is = c.is_target.ensures.some c.if-not-is_target.false in
    let spelled = sym (c.has_room.ensures.spelling t (sym is.0) is.2) ∙ c.if-not-has_room.false in
    wide_entry c.args.words.now (key_shown c.args.key) t c.requires.size.1 is.0 is.1 spelled c.bytes.ensures c.is_spelled.ensures.bytes (c.is_spelled.ensures.is.0 told)

pub returns-then-not-is_target-clause-none : goal.returns-then-not-is_target-clause-none
returns-then-not-is_target-clause-none c failed target s = let is = wide_target c.args.words.now (key_shown c.args.key) target c.kind-kind.ensures c.value-value.ensures s in
    elim c.then-not-is_target.branch [
      | then-not-is_target-via-then-not-is_target w ↦ (let yes = c.is_target.ensures.all target is.0 is.1 is.2 in let other = w.if-not-is_target.true in absurd cc)
      | then-not-is_target-via-else-not-is_target+then-not-has_room w ↦ (let yes = w.has_room.ensures.spelling target is.0 is.2 ∙ s.allowed in let other = w.if-not-has_room.true in absurd cc)
    ]

pub returns-clause-none : goal.returns-clause-none
returns-clause-none c failed target s =
    let yes = c.is_spelled.ensures.is.1 (narrow_entry c.args.words.now (key_shown c.args.key) target c.kind-kind.ensures c.value-value.ensures c.bytes.ensures s) in absurd cc

use Rattle.std.proofs.Common.{refl, subst}
use Rattle.dc_plain.specs.KeysShown.{key_shown}
use Rattle.dc_plain.specs.Trees.{Tree}
use Rattle.dc_table.specs.Rows.{IsOf}
use Rattle.dc_rows.proofs.OddRows.{filled_next, emptied_next}
use Rattle.dc_rows.proofs.Refills.{may_tell, has_own, has_nothing}
use Rattle.dc_rows.proofs.Retelling.{refilled_kept, refilled_lost}
use Rattle.dc_rows.proofs.Slots.{held_inside, held_within}
use Rattle.dc_rows.proofs.shutting.refill_row.Goals as goal

pub most_words-end-requires : goal.most_words-end-requires
most_words-end-requires c = let row = c.args.odd.now.row in held_within _ row _ ((c.requires.row row).0 refl)

pub open_with-requires-clause-row : goal.open_with-requires-clause-row
open_with-requires-clause-row c = let row = c.args.odd.now.row in held_inside _ _ _ _ row _ c.requires.odd.fit ((c.requires.row row).0 refl)

pub open_with-requires-clause-stands : goal.open_with-requires-clause-stands
open_with-requires-clause-stands c = let o = c.args.odd.now in let key = key_shown o.key.key in may_tell _ _ c.args.kept.now.index key o.row ((c.requires.row o.row).0 refl) c.requires.odd.odd
    c.in-Some.words (subst (λ (t : Tree). IsOf t c.in-Some.words key) c.requires.store c.in-Some.ensures.some)

pub open_with-requires-clause-has : goal.open_with-requires-clause-has
open_with-requires-clause-has c = let o = c.args.odd.now in has_own c.args.kept.now.store _ _ (key_shown o.key.key) o.row ((c.requires.row o.row).0 refl) c.requires.odd.odd c.requires.odd.narrow _ c.most_words-end.ensures
    c.in-Some.words c.in-Some.ensures.some

pub open_with-requires-in-None-clause-row : goal.open_with-requires-in-None-clause-row
open_with-requires-in-None-clause-row c = let row = c.args.odd.now.row in held_inside _ _ _ _ row _ c.requires.odd.fit ((c.requires.row row).0 refl)

pub open_with-requires-in-None-clause-has : goal.open_with-requires-in-None-clause-has
open_with-requires-in-None-clause-has c = let o = c.args.odd.now in has_nothing c.args.kept.now.store _ _ (key_shown o.key.key) o.row ((c.requires.row o.row).0 refl) c.requires.odd.odd c.requires.odd.narrow _ c.most_words-end.ensures

pub returns-in-Some-clause-stage : goal.returns-in-Some-clause-stage
returns-in-Some-clause-stage c = let o = c.args.odd.now in let key = key_shown o.key.key in
    filled_next c.args.holder.now.pass.now c.open_with.new.holder.pass.now c.args.kept.now key o.row c.requires.row c.open_with.ensures.pass
    c.in-Some.words (subst (λ (t : Tree). IsOf t c.in-Some.words key) c.requires.store c.in-Some.ensures.some) c.open_with.ensures.wrote

pub returns-in-Some-clause-rows : goal.returns-in-Some-clause-rows
returns-in-Some-clause-rows c = let o = c.args.odd.now in
    refilled_kept _ _ c.requires.odd.fit.agree (key_shown o.key.key) o.row c.requires.row c.args.kept.now.store c.in-Some.words c.in-Some.ensures.some c.open_with.ensures.wrote refl refl

pub returns-in-None-clause-stage : goal.returns-in-None-clause-stage
returns-in-None-clause-stage c = let o = c.args.odd.now in
    emptied_next c.args.holder.now.pass.now c.open_with-in-None.new.holder.pass.now c.args.kept.now (key_shown o.key.key) o.row c.requires.row c.open_with-in-None.ensures.pass
    _ _ c.empty_row_spells_nothing.ensures c.open_with-in-None.ensures.wrote c.clear.ensures c.remove.ensures.dropped c.remove.ensures.unused

pub returns-in-None-clause-rows : goal.returns-in-None-clause-rows
returns-in-None-clause-rows c = let o = c.args.odd.now in
    refilled_lost _ _ c.requires.odd.fit.agree (key_shown o.key.key) o.row c.requires.row c.args.kept.now.store c.empty_row_spells_nothing.ensures c.in-None.ensures.none c.open_with-in-None.ensures.wrote c.requires.odd.odd.1
    c.clear.ensures c.remove.ensures.dropped c.remove.ensures.unused

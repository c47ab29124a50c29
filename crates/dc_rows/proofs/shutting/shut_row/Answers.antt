use Rattle.std.proofs.Common.{refl, arith}
use Rattle.dc_plain.specs.KeysShown.{key_shown}
use Rattle.dc_rows.proofs.OddRows.{is_odd, is_low, kept_next, kept_rows, lost_next, lost_rows, lost_found}
use Rattle.dc_rows.proofs.Slots.{held_inside}
use Rattle.dc_rows.proofs.Stages.{wrote_only}
use Rattle.dc_rows.proofs.shutting.shut_row.Goals as goal

pub shut_row-odd-requires : goal.shut_row-odd-requires
shut_row-odd-requires c = record { row = (held_inside _ _ _ _ c.args.row (key_shown c.args.key.key) c.requires.fit ((c.requires.row c.args.row).0 refl), c.requires.even) }

pub open_with-requires-clause-odd : goal.open_with-requires-clause-odd
open_with-requires-clause-odd c = let s = c.shut_row-odd in
    is_odd c.args.holder.now.pass.now s.new.self.pass.now c.args.kept.now (key_shown c.args.key.key) c.args.row s.result c.requires.fit c.requires.row c.requires.even s.ensures.shut

pub open_with-requires-clause-low : goal.open_with-requires-clause-low
open_with-requires-clause-low c = let s = c.shut_row-odd in
    is_low c.args.holder.now.pass.now s.new.self.pass.now c.args.kept.now (key_shown c.args.key.key) c.args.row s.result c.requires.fit c.requires.row c.requires.even s.ensures.shut

pub returns-then-odd-ge-MOST_COUNT-clause-found : goal.returns-then-odd-ge-MOST_COUNT-clause-found
returns-then-odd-ge-MOST_COUNT-clause-found c = let s = c.shut_row-odd in
    lost_found c.args.holder.now.pass.now s.new.self.pass.now c.args.kept.now (key_shown c.args.key.key) c.args.row s.result c.requires.fit c.requires.row c.requires.even s.ensures.shut
    c.open_with.new.holder.pass.now (omega arith) _ _ c.empty_row_spells_nothing.ensures c.open_with.ensures.wrote c.retire.ensures c.remove.ensures.dropped c.remove.ensures.unused

pub returns-then-odd-ge-MOST_COUNT-clause-stage : goal.returns-then-odd-ge-MOST_COUNT-clause-stage
returns-then-odd-ge-MOST_COUNT-clause-stage c = let s = c.shut_row-odd in let p = c.args.holder.now.pass.now in let q = s.new.self.pass.now in
    lost_next p q c.args.kept.now (key_shown c.args.key.key) c.args.row s.result c.requires.fit c.requires.row c.requires.even s.ensures.shut
    c.open_with.new.holder.pass.now (omega arith) _ _ c.empty_row_spells_nothing.ensures c.open_with.ensures.wrote c.retire.ensures c.remove.ensures.dropped c.remove.ensures.unused
    (wrote_only p q s.ensures.same s.ensures.held.untried s.new.self.has_lock _ _ s.ensures.shut.1) c.open_with.ensures.pass

pub returns-then-odd-ge-MOST_COUNT-clause-rows : goal.returns-then-odd-ge-MOST_COUNT-clause-rows
returns-then-odd-ge-MOST_COUNT-clause-rows c = let s = c.shut_row-odd in
    lost_rows c.args.holder.now.pass.now s.new.self.pass.now c.args.kept.now (key_shown c.args.key.key) c.args.row s.result c.requires.fit c.requires.row c.requires.even s.ensures.shut
    c.open_with.new.holder.pass.now (omega arith) _ _ c.empty_row_spells_nothing.ensures c.open_with.ensures.wrote c.retire.ensures c.remove.ensures.dropped c.remove.ensures.unused

pub returns-clause-stage : goal.returns-clause-stage
returns-clause-stage c = let s = c.shut_row-odd in let p = c.args.holder.now.pass.now in let q = s.new.self.pass.now in
    kept_next p q c.args.kept.now (key_shown c.args.key.key) c.args.row s.result c.requires.fit c.requires.row c.requires.even s.ensures.shut
    (wrote_only p q s.ensures.same s.ensures.held.untried s.new.self.has_lock _ _ s.ensures.shut.1) (omega arith)

pub returns-clause-rows : goal.returns-clause-rows
returns-clause-rows c = let s = c.shut_row-odd in
    kept_rows c.args.holder.now.pass.now s.new.self.pass.now c.args.kept.now (key_shown c.args.key.key) c.args.row s.result c.requires.fit c.requires.row c.requires.even s.ensures.shut

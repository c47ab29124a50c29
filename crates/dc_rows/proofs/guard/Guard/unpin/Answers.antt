use Rattle.std.proofs.Common.{arith}
use Rattle.dc_rows.proofs.Emptying.{keyed_pinned, zeros_past, home_emptied, pin_emptied, pin_taken}
use Rattle.dc_rows.proofs.guard.Guard.unpin.Goals as goal

pub empty-requires-clause-zeros : goal.empty-requires-clause-zeros
empty-requires-clause-zeros c = let s = c.args.self.now in let p = s.holder.pass.now in let same = c.deref_mut-kept.ensures.value in let one = c.in-Err.ensures.last in
    zeros_past p same s.rests c.args.row (keyed_pinned p same s.rests c.args.row (omega arith)) _ c.most_words-end.ensures

pub invariant_of-self-in-Err : goal.invariant_of-self-in-Err
invariant_of-self-in-Err c = let s = c.args.self.now in let p = s.holder.pass.now in let same = c.deref_mut-kept.ensures.value in let one = c.in-Err.ensures.last in let m = c.empty in
    record { rests = home_emptied p same s.rests c.args.row m.new.holder.pass.now m.ensures.pass (keyed_pinned p same s.rests c.args.row (omega arith)) c.empty_row_spells_nothing.ensures c.unpin.new.self c.in-Err.ensures.dropped c.in-Err.ensures.unused m.new.kept m.ensures.tree m.ensures.shrinker m.ensures.emptied }

pub returns-in-Err-clause-rows : goal.returns-in-Err-clause-rows
returns-in-Err-clause-rows c = let s = c.args.self.now in let p = s.holder.pass.now in let same = c.deref_mut-kept.ensures.value in let one = c.in-Err.ensures.last in let m = c.empty in
    pin_emptied p same s.rests c.args.row m.new.holder.pass.now m.ensures.pass (keyed_pinned p same s.rests c.args.row (omega arith)) c.empty_row_spells_nothing.ensures c.unpin.new.self c.in-Err.ensures.dropped c.in-Err.ensures.unused m.new.kept m.ensures.tree m.ensures.shrinker m.ensures.emptied one

pub returns-in_default-clause-rows : goal.returns-in_default-clause-rows
returns-in_default-clause-rows c = let s = c.args.self.now in pin_taken s.holder.pass.now c.deref_mut-kept.ensures.value s.rests c.args.row c.unpin.new.self c.in_default.ensures.unpinned c.in_default.ensures.same_use

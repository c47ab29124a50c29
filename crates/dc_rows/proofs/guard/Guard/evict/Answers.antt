use Rattle.dc_rows.proofs.Emptying.{keyed, zeros_past, home_emptied, row_emptied}
use Rattle.dc_rows.proofs.guard.Guard.evict.Goals as goal

pub empty-requires-clause-zeros : goal.empty-requires-clause-zeros
empty-requires-clause-zeros c = let s = c.args.self.now in let p = s.holder.pass.now in let same = c.deref_mut-kept.ensures.value in
    zeros_past p same s.rests c.args.row (keyed p same s.rests c.args.row c.requires.key) _ c.most_words-end.ensures

pub invariant_of-self : goal.invariant_of-self
invariant_of-self c = let s = c.args.self.now in let p = s.holder.pass.now in let same = c.deref_mut-kept.ensures.value in let r = c.remove in let m = c.empty in
    record { rests = home_emptied p same s.rests c.args.row m.new.holder.pass.now m.ensures.pass (keyed p same s.rests c.args.row c.requires.key) c.empty_row_spells_nothing.ensures r.new.self r.ensures.dropped r.ensures.unused m.new.kept m.ensures.tree m.ensures.shrinker m.ensures.emptied }

pub returns-clause-rows : goal.returns-clause-rows
returns-clause-rows c = let s = c.args.self.now in let p = s.holder.pass.now in let same = c.deref_mut-kept.ensures.value in let r = c.remove in let m = c.empty in
    row_emptied p same s.rests c.args.row m.new.holder.pass.now m.ensures.pass (keyed p same s.rests c.args.row c.requires.key) c.empty_row_spells_nothing.ensures r.new.self r.ensures.dropped r.ensures.unused m.new.kept m.ensures.tree m.ensures.shrinker m.ensures.emptied

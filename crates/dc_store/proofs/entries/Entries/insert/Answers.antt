use Rattle.std.proofs.Common.{ap, ◌∙◌}
use Rattle.std.specs.FinMap.Entries.{find, put}
use Rattle.dc_plain.specs.Trees.{spot_cmp}
use Rattle.dc_store.proofs.Keyed.{found_at, put_in}
use Rattle.dc_store.proofs.entries.Entries.insert.Goals as goal

pub invariant_of-self-2 : goal.invariant_of-self-2
invariant_of-self-2 c = let both = put_in c.self.invariant _ c.ranges.dir.fits _ _ (c.in_ok-key.ensures ∙ c.new.ensures) c.in_ok-insert.ensures.entries in both.0

pub returns-clause-ok : goal.returns-clause-ok
returns-clause-ok c =
    let both = put_in c.self.invariant _ c.ranges.dir.fits _ _ (c.in_ok-key.ensures ∙ c.new.ensures) c.in_ok-insert.ensures.entries in
    both.1 ∙ ap (put spot_cmp _ _) c.self.view_is

pub returns-clause-before : goal.returns-clause-before
returns-clause-before c = c.in_ok-insert.ensures.old ∙ found_at c.self.invariant _ c.ranges.dir.fits (c.in_ok-key.ensures ∙ c.new.ensures) ∙ ap (find spot_cmp _) c.self.view_is

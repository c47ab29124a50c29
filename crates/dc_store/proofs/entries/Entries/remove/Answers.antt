use Rattle.std.proofs.Common.{ap, ◌∙◌}
use Rattle.std.specs.FinMap.Entries.{find}
use Rattle.dc_plain.specs.Trees.{spot_cmp, without_spot}
use Rattle.dc_store.proofs.Keyed.{found_at, taken_out}
use Rattle.dc_store.proofs.entries.Entries.remove.Goals as goal

pub invariant_of-self : goal.invariant_of-self
invariant_of-self c = let both = taken_out c.self.invariant _ c.ranges.dir.fits (c.as_slice.ensures ∙ c.new-key.ensures) c.remove.ensures.entries in both.0

pub returns-clause-rest : goal.returns-clause-rest
returns-clause-rest c =
    let both = taken_out c.self.invariant _ c.ranges.dir.fits (c.as_slice.ensures ∙ c.new-key.ensures) c.remove.ensures.entries in
    both.1 ∙ ap (without_spot _) c.self.view_is

pub returns-clause-before : goal.returns-clause-before
returns-clause-before c = c.remove.ensures.value ∙ found_at c.self.invariant _ c.ranges.dir.fits (c.as_slice.ensures ∙ c.new-key.ensures) ∙ ap (find spot_cmp _) c.self.view_is

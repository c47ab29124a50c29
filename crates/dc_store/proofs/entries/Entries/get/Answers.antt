use Rattle.std.proofs.Common.{ap, ◌∙◌}
use Rattle.std.specs.FinMap.Entries.{find}
use Rattle.dc_plain.specs.Trees.{spot_cmp}
use Rattle.dc_store.proofs.Keyed.{found_at}
use Rattle.dc_store.proofs.entries.Entries.get.Goals as goal

pub returns : goal.returns
returns c = c.copied.ensures ∙ c.get.ensures.value ∙ found_at c.self.invariant _ c.ranges.dir.fits (c.as_slice.ensures ∙ c.new-key.ensures) ∙ ap (find spot_cmp _) c.self.view_is

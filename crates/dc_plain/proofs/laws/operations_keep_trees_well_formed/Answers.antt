use Rattle.dc_plain.proofs.KeptTrees.{well_formed-kept, within-kept, runs-kept, runs-within}
use Rattle.dc_plain.proofs.laws.operations_keep_trees_well_formed.Goals as goal

pub returns : goal.returns
returns c = let parts = c.parts_are_names_or_dots.ensures in record {
  well_formed = well_formed-kept parts;
  within = within-kept parts;
  runs = runs-kept parts;
  runs_within = runs-within parts;
}

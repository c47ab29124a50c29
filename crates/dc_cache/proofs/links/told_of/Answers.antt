use Rattle.std.proofs.Common.{refl, ap, ◌∙◌}
use Rattle.dc_plain.specs.Requests.{answer_of}
use Rattle.dc_plain.specs.Requests.Answer.{Found}
use Rattle.dc_cache.proofs.ReadLinks.{no_link, read_invalid}
use Rattle.dc_cache.proofs.links.told_of.Goals as goal

pub returns-in-Dir : goal.returns-in-Dir
returns-in-Dir c base text = (
  refl,
  read_invalid c.paths_lead_to_the_living.ensures.walks c.operations_keep_trees_well_formed.ensures.runs c.opening_tree_is_well_formed.ensures base text _ c.in-Found.kind (no_link c.in-Found.kind c.in-Dir.is) (answer_of c.args.found.reply) c.number.result
      (ap answer_of c.in-Found.is) c.number.ensures,
)

pub returns-in-Link : goal.returns-in-Link
returns-in-Link c base text = (refl, (c.in-Found.field-0, ap answer_of c.in-Found.is ∙ ap (Found c.in-Found.field-0) c.in-Link.is))

use Rattle.std.proofs.Common.{◌==◌, not, map, ap, ◌∙◌, rules}
use Rattle.std.proofs.lemmas.Fn.{filter_same}
use Rattle.dc_plain.specs.Plain.{inode_shown}
use Rattle.dc_plain.proofs.PassingRows.{filter-map}
use Rattle.dc_plain.proofs.rows.remove_inode.Goals as goal

pub returns : goal.returns
returns c =
    ap (map inode_shown) (filter_same _ (λ i. not (c.args.number == i.number)) _ (λ x b f' k. search rules) _ _ c.retain.ensures.filtered)
    ∙ filter-map (λ i. not (c.args.number == i.0)) inode_shown c.args.inodes.now.items

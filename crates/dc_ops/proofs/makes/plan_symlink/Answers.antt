use Rattle.std.proofs.Common.{◌≡◌, ◌∷◌, false, rules, sym, subst}
use Rattle.dc_names.specs.declared.kind.Kind.TheVariants.{Link}
use Rattle.dc_plain.specs.Operations.{make, symlink}
use Rattle.dc_plain.specs.TouchedKeys.{at_name, entry_key, own_keys}
use Rattle.dc_plain.specs.Trees.Inode.{Symbolic}
use Rattle.dc_ops.specs.Plans.{Settles}
use Rattle.dc_ops.proofs.makes.plan_symlink.Goals as goal

pub returns-clause-settled : goal.returns-clause-settled
returns-clause-settled g c =
    let t = g.S.Store.tree c.args.store.now in
    let made : symlink c.args.max_inodes t c.args.base c.args.text.now c.args.path.now ≡ make c.args.max_inodes t c.args.base c.args.path.now false (Symbolic c.in_ok-text.text.bytes.now) = search rules in
    subst (λ change. Settles t change (at_name t c.args.base c.args.path.now (λ d name. entry_key d name ∷ own_keys t.next Link)) c.plan_make.result) (sym made) c.plan_make.ensures.settled

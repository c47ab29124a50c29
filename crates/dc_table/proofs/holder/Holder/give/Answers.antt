use Rattle.std.proofs.Common.{rules, ◌<◌, sym, ap, ◌∙◌, subst, Some, ◌∷◌}
use Rattle.atomic_table.specs.Table.{rest}
use Rattle.dc_table.specs.Kept.{known_of}
use Rattle.dc_table.specs.Plays.{Home}
use Rattle.dc_table.proofs.Moves.{gives_lock}
use Rattle.dc_table.proofs.holder.Holder.give.Goals as goal

pub store-requires : goal.store-requires
store-requires g c = let e = c.exchange.ensures.3 in let v = ap (λ m. known_of m.0) e in let h = c.args.self.has_lock in (
  search rules,
  search rules,
  gives_lock _ c.events_keep_the_rule.ensures.holders _ _ _ c.args.guarded (ap (λ m. m.1) e ∙ ap (λ l. (0, Some c.args.guarded) ∷ rest l) h.out) (ap (λ k. k.view.hold.holds) v ∙ h.has) (subst (λ k. 0 < k.share.parts) (sym v) h.part)
      (subst (λ k. Home k c.args.guarded.value) (sym v) c.requires.home),
)

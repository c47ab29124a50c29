use Rattle.std.proofs.Common.{rules, ◌≡◌, ◌<◌, false, sym, ap, ◌∙◌, subst, Some, ◌∷◌}
use Rattle.atomic_table.specs.Table.{rest}
use Rattle.dc_plain.specs.Runs.{alters}
use Rattle.dc_events.specs.Standing.{tree_of}
use Rattle.dc_table.specs.Kept.{known_of}
use Rattle.dc_table.specs.Shares.{Known}
use Rattle.dc_table.specs.Plays.{Home}
use Rattle.dc_table.proofs.Moves.{answers_lock}
use Rattle.dc_table.proofs.holder.Holder.answer_as.Goals as goal

pub store-requires : goal.store-requires
store-requires g c = let e = c.exchange.ensures.3 in let v = ap (λ m. known_of m.0) e in let h = c.args.self.has_lock in (
  search rules,
  search rules,
  answers_lock _ c.events_keep_the_rule.ensures.holders _ _ _ c.args.guarded g.C.Asked.call (ap (λ m. m.1) e ∙ ap (λ l. (0, Some c.args.guarded) ∷ rest l) h.out) (ap (λ k. k.view.hold.holds) v ∙ h.has) (subst (λ k. 0 < k.share.parts) (sym v) h.part)
      (subst (λ k. Home k c.args.guarded.value) (sym v) c.requires.may.home)
      (subst (λ (k : Known). alters k.share.limit (tree_of k.share.limit k.view.hold.history) g.C.Asked.call ≡ false) (sym v)
      (subst (λ r. alters (known_of c.args.self.pass.now.me.0).share.limit (tree_of (known_of c.args.self.pass.now.me.0).share.limit (known_of c.args.self.pass.now.me.0).view.hold.history) r ≡ false) (sym c.requires.call) c.requires.may.unaltered)),
)

use Rattle.std.proofs.Common.{◌≡◌, Some, IfSome, subst, sym, ap, rules, ◌∙◌}
use Rattle.dc_plain.specs.Refusals.{where_of}
use Rattle.dc_resolve.specs.Ends.{placed_shown}
use Rattle.dc_ops.specs.Knowing.{IsKnownOn}
use Rattle.dc_ops.specs.Same.{same_tells}
use Rattle.dc_ops.proofs.Knowing.{known_place}
use Rattle.dc_ops.proofs.paths.place_path.Goals as goal

pub returns-in-At : goal.returns-in-At
returns-in-At g c = let e = c.in-Ok.ensures in ap where_of (e.answer _ (same_tells _ _ (sym e.kept.becomes)) ∙ ap (λ p. Some (placed_shown p)) c.in-At.is)

pub returns-in-Refused : goal.returns-in-Refused
returns-in-Refused g c = let e = c.in-Ok.ensures in ap where_of (e.answer _ (same_tells _ _ (sym e.kept.becomes)) ∙ ap (λ p. Some (placed_shown p)) c.in-Refused.is)

pub returns : goal.returns
returns g c =
    let known = c.in-Some.known in
    let same : c.args.base ≡ known.base = search rules in
    known_place (g.S.Store.tree c.args.store.now) known c.args.path.bytes.now (subst (λ o. IfSome o (IsKnownOn (g.S.Store.tree c.args.store.now))) c.in-Some.is c.requires.known) same c.in-Some-place_in.ensures.front c.in-Some-place_in.ensures.place

use Rattle.std.proofs.Common.{◌≡◌, ◌≤◌, length, Some, sym, subst, ◌∙◌, rules}
use Rattle.dc_plain.specs.Places.Placed.{At}
use Rattle.dc_resolve.specs.Fronts.{LeadsToFront}
use Rattle.dc_resolve.proofs.Placing.{leads_to_front, place_there}
use Rattle.dc_resolve.proofs.placed.place_in.Goals as goal

pub returns-clause-front : goal.returns-clause-front
returns-clause-front c =
    let b = c.in_ok-before in
    let same : b.before.now ≡ c.args.front.now = search rules in
    let some : 1 ≤ length b.before.now = search rules in
    subst (λ f. LeadsToFront f c.args.path.bytes.now) same (leads_to_front _ _ _ _ c.bytes.ensures.bytes b.ensures.last some b.ensures.begins)

pub returns-clause-place : goal.returns-clause-place
returns-clause-place c teller base kind leads =
    place_there c.in_ok-before.before.now _ _ _ c.bytes.ensures.bytes c.in_ok-before.ensures.last c.args.dir teller base kind leads
    ∙ (λ i. Some (At (record { dir = c.args.dir; last = sym c.from.ensures i; slash = sym c.has_end_slash.ensures i })))

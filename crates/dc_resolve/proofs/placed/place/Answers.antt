use Rattle.std.proofs.Common.{Some, sym, arith, ◌∙◌}
use Rattle.dc_names.specs.Names.{part_shown}
use Rattle.dc_plain.specs.Places.Placed.{At}
use Rattle.dc_resolve.proofs.Needed.{needed_by}
use Rattle.dc_resolve.proofs.Placing.{place_is, place_met}
use Rattle.dc_resolve.proofs.Spending.{front_within, may_within}
use Rattle.dc_resolve.proofs.placed.place.Goals as goal

pub resolve_from-requires-clause-may : goal.resolve_from-requires-clause-may
resolve_from-requires-clause-may g c =
    needed_by g.F.Finder (λ teller none. place_is teller c.args.base c.args.path.bytes.now c.in-Some.front.now (part_shown c.in-Some.last) c.bytes.ensures.bytes c.in-Some.ensures.last none) c.requires.may

pub resolve_from-requires-clause-spend : goal.resolve_from-requires-clause-spend
resolve_from-requires-clause-spend g c =
    may_within g.F.Finder (omega (arith, front_within c.in-Some.front.now c.args.path.bytes.now (part_shown c.in-Some.last) c.bytes.ensures.bytes c.in-Some.ensures.last)) c.requires.spend

pub returns-in-Found-clause-answer : goal.returns-in-Found-clause-answer
returns-in-Found-clause-answer g c teller more =
    place_met teller c.args.base _ c.in-Some.front.now _ c.bytes.ensures.bytes c.in-Some.ensures.last (c.in_ok-dir.ensures.ends teller more) c.in-Found.is
    ∙ (λ i. Some (At (record { dir = c.in-Found.dir; last = sym c.from.ensures i; slash = sym c.has_end_slash.ensures i })))

pub returns-in-Refused-clause-answer : goal.returns-in-Refused-clause-answer
returns-in-Refused-clause-answer g c teller more =
    place_met teller c.args.base _ c.in-Some.front.now _ c.bytes.ensures.bytes c.in-Some.ensures.last (c.in_ok-dir.ensures.ends teller more) c.in-Refused.is

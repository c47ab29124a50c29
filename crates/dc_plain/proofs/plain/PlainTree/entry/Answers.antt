use Rattle.std.proofs.Common.{ap, ◌∙◌, map, option_and_then, subst}
use Rattle.std.specs.FinMap.Entries.{find as lookup}
use Rattle.dc_plain.specs.IsWellFormed.{IsWellFormed}
use Rattle.dc_plain.specs.Machines.{Machine}
use Rattle.dc_plain.specs.Trees.{Spot, spot_cmp, entry_number, target_at}
use Rattle.dc_plain.specs.Plain.{entry_shown}
use Rattle.dc_plain.proofs.Found.{leads_to}
use Rattle.dc_plain.proofs.plain.PlainTree.entry.Goals as goal

pub returns-clause-leads : goal.returns-clause-leads
returns-clause-leads c =
    let t = c.args.self.now.tree in
    let spot : Spot = record { dir = c.args.dir; name = c.args.name.now } in
    let told = c.in_ok-target.ensures ∙ ap (λ es. lookup spot_cmp spot (map entry_shown es)) c.deref.ensures.value ∙ ap (λ (m : Machine). entry_number m.tree spot) c.self.view_is in
    leads_to t c.args.dir c.args.name.now (subst (λ (m : Machine). IsWellFormed m.tree) c.self.view_is c.self.invariant.well) c.target_at.result
    (c.target_at.ensures ∙ ap (option_and_then (target_at t)) told)

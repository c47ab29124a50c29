use Rattle.std.proofs.Common.{ℕ, sym, subst}
use Rattle.dc_plain.specs.Requests.{request_of}
use Rattle.dc_plain.specs.Requests.Answer.{Refused}
use Rattle.dc_ops.specs.Plans.{Declines}
use Rattle.dc_ops.proofs.Alters.{plans_if, idles_if, refuses_so}
use Rattle.dc_ops.proofs.Takings.{idle_if, lives_if}
use Rattle.dc_ops.proofs.dispatch.plan_knowing.Goals as goal

pub returns-in-Ok-Some-clause-planned : goal.returns-in-Ok-Some-clause-planned
returns-in-Ok-Some-clause-planned g c =
    let said = c.in-Ok-Some.ensures in
    plans_if c.names_in_directories_are_in_order.ensures.total c.alters_tells_whether_trees_differ.ensures c.args.max_inodes (g.S.Store.tree c.args.store.now) (request_of c.args.call.now) c.in-Ok-Some.field-0 c.in-Ok-Some.plan c.in-Ok-Some.field-0-is said.settled said.without_memory
    (record { taken = said.taken; lives = lives_if c.paths_lead_to_the_living.ensures.walks (g.S.Store.tree c.args.store.now) (request_of c.args.call.now) _ said.taken })

pub returns-in-Ok-None-clause-declined : goal.returns-in-Ok-None-clause-declined
returns-in-Ok-None-clause-declined g c =
    idles_if c.alters_tells_whether_trees_differ.ensures c.args.max_inodes (g.S.Store.tree c.args.store.now) (request_of c.args.call.now) c.in-Ok-None.field-0 c.in-Ok-None.field-0-is c.in-Ok-None.ensures.settled

pub returns-in-Ok-None-clause-idle : goal.returns-in-Ok-None-clause-idle
returns-in-Ok-None-clause-idle g c =
    idle_if (g.S.Store.tree c.args.store.now) (request_of c.args.call.now) c.in-Ok-None.field-0 c.in-Ok-None.field-0-is c.in-Ok-None.ensures.taken

pub returns-in-Err-clause-declined : goal.returns-in-Err-clause-declined
returns-in-Err-clause-declined g c =
    subst (λ (n : ℕ). Declines c.args.max_inodes (g.S.Store.tree c.args.store.now) (request_of c.args.call.now) (Refused n)) (sym c.number.ensures)
    (refuses_so c.alters_tells_whether_trees_differ.ensures c.args.max_inodes (g.S.Store.tree c.args.store.now) (request_of c.args.call.now) c.in-Err.refusal c.in-Err.ensures.settled)

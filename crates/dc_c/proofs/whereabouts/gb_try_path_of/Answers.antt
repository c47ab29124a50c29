use Rattle.std.proofs.Common.{◌∙◌, ◌++◌, to_z-of_z, SFits, w32, take, drop, rules}
use Rattle.dc_hold.specs.Whereabouts.{MayLocate}
use Rattle.dc_names.specs.declared.limits.TheConstants.{PATH_MAX}
use Rattle.dc_c.specs.Whereabouts.{ShowsWhere}
use Rattle.dc_c.proofs.Answering.{called, shown, tried}
use Rattle.dc_c.proofs.Leaving.{refused, unwritten, without}
use Rattle.dc_c.proofs.whereabouts.gb_try_path_of.Goals as goal

pub returns-in_default-take-clause-tells : goal.returns-in_default-take-clause-tells
returns-in_default-take-clause-tells c = λ room.
    let fits : SFits w32 c.number-in_default-take.result = search rules in
    refused (MayLocate c.args.number (take PATH_MAX c.args.path.now)) (ShowsWhere c.args.number (drop PATH_MAX c.args.path.now)) c.args.pass.now c.take.new.self _ (c.args.found.now, c.args.path.now) (c.args.found.now, c.in-Some.buffer.now ++ drop PATH_MAX c.args.path.now)
    c.in_default-take.ensures.taken c.take.ensures.blank (to_z-of_z fits ∙ c.number-in_default-take.ensures)
    (λ i. (c.args.found.now, unwritten PATH_MAX c.args.path.now c.in-Some.buffer.now c.in-Some.ensures.cases.same i))

pub returns-clause-tells : goal.returns-clause-tells
returns-clause-tells c = λ room.
    let fits : SFits w32 c.tell.result = search rules in
    let got = c.try_path_of-tried in
    called (MayLocate c.args.number (take PATH_MAX c.args.path.now)) (ShowsWhere c.args.number (drop PATH_MAX c.args.path.now)) c.args.pass.now c.put.new.self _ (c.args.found.now, c.args.path.now) (c.tell.new.found, _)
    c.in-Some-take.hold.value c.deref_mut.result.now got.new.self (got.result, got.new.buffer) c.in-Some-take.ensures.taken c.deref_mut.ensures.value c.put.ensures
    (tried _ _ got.result got.ensures.told (without got.result (λ none. (none.0, none.1 ∙ c.in-Some.ensures.cases.same)) got.ensures.held))
    (record { found = shown _ _ _ _ _ c.told_where.ensures c.tell.ensures (to_z-of_z fits); path = λ i. c.put_path.ensures i ++ drop PATH_MAX c.args.path.now })

use Rattle.std.proofs.Common.{◌∙◌, refl, sym, ap, subst, map}
use Rattle.dc_table.specs.Passes.{share}
use Rattle.dc_table.specs.Changes.{tree_now, words_of}
use Rattle.dc_rows.specs.Guards.{rows_at}
use Rattle.std.proofs.lemmas.List.{length-map}
use Rattle.dc_plain.specs.KeysShown.{key_shown}
use Rattle.dc_plain.specs.Requests.{request_of}
use Rattle.dc_table.specs.declared.table.Guarded.{Guarded}
use Rattle.dc_plain.specs.Runs.{Touches}
use Rattle.dc_rows.specs.Refills.{Retold, Turns}
use Rattle.dc_rows.proofs.Held.{home_is, rest_of}
use Rattle.dc_rows.proofs.Altering.{rows_stay, retold_call, stage_committed, well_same, touched_same, can_commit, store_after, home_committed, home_kept}
use Rattle.dc_rows.proofs.Commits.{from_rest}
use Rattle.dc_rows.proofs.Stages.{then_only}
use Rattle.dc_rows.proofs.guard.Guard.alter.Goals as goal

pub shut_keys-requires-clause-stage : goal.shut_keys-requires-clause-stage
shut_keys-requires-clause-stage c = let p = c.args.self.now.holder.pass.now in let x = c.deref_mut-kept.result.now in let home = home_is p c.deref_mut-kept.ensures.value c.args.self.now.rests in from_rest _ _ _ _ _ _ (rest_of p x home)

pub commit-requires : goal.commit-requires
commit-requires c = let shown = ap (map key_shown) c.as_slice-keys.ensures.value ∙ c.keys-keys.ensures in record {
  can = can_commit c.args.self.now.holder.pass.now c.shut_keys.new.holder.pass.now c.shut_keys.ensures.pass (request_of c.args.call.now) c.shut_keys.new.kept (map key_shown c.as_slice-keys.result.now) _ (sym (length-map c.as_slice-keys.result.now key_shown)) (shown ∙ c.requires.plans.keys)
      c.words_have_the_fact_they_spell.ensures c.calls_touch_the_listed_keys.ensures.keys c.requires.well c.requires.plans.alters c.requires.early c.shut_keys.ensures.stage;
}

pub refill_keys-requires-clause-store : goal.refill_keys-requires-clause-store
refill_keys-requires-clause-store c = let home = home_is c.args.self.now.holder.pass.now c.deref_mut-kept.ensures.value c.args.self.now.rests in store_after c.args.self.now.holder.pass.now c.shut_keys.new.holder.pass.now c.commit.new.self.pass.now c.shut_keys.ensures.pass (request_of c.args.call.now) c.commit.ensures.same c.commit.ensures.view
    c.args.plan c.shut_keys.new.kept.store _ (c.shut_keys.ensures.tree.tree ∙ home.tree) c.in-Ok.ensures.tree c.requires.plans.operation

pub refill_keys-requires-clause-stage : goal.refill_keys-requires-clause-stage
refill_keys-requires-clause-stage c = let shown = ap (map key_shown) c.as_slice-keys.ensures.value ∙ c.keys-keys.ensures in let w = c.shut_keys.ensures.pass in
    stage_committed c.shut_keys.new.holder.pass.now c.commit.new.self.pass.now (request_of c.args.call.now) c.commit.ensures.same c.commit.ensures.view c.shut_keys.new.kept (map key_shown c.as_slice-keys.result.now) _ (sym (length-map c.as_slice-keys.result.now key_shown))
    (touched_same c.args.self.now.holder.pass.now c.shut_keys.new.holder.pass.now w (request_of c.args.call.now) _ (shown ∙ c.requires.plans.keys)) c.words_have_the_fact_they_spell.ensures c.calls_touch_the_listed_keys.ensures.keys c.untouched_facts_stay.ensures
    (well_same c.args.self.now.holder.pass.now c.shut_keys.new.holder.pass.now w (request_of c.args.call.now) c.requires.well) c.shut_keys.ensures.stage

pub invariant_of-self : goal.invariant_of-self
invariant_of-self c = let p = c.args.self.now.holder.pass.now in let home = home_is p c.deref_mut-kept.ensures.value c.args.self.now.rests in let k = c.shut_keys in let u = c.refill_keys in record {
  rests = home_committed p k.new.holder.pass.now c.commit.new.self.pass.now k.ensures.pass (request_of c.args.call.now) c.commit.ensures.same c.commit.ensures.view c.deref_mut-kept.result.now k.new.kept home k.ensures.tree
      c.args.plan c.in-Ok.ensures.tree c.requires.plans.operation u.new.holder.pass.now u.ensures.pass u.new.kept u.ensures.tree _ _ u.ensures.stage;
}

pub returns-in-Ok-clause-rows : goal.returns-in-Ok-clause-rows
returns-in-Ok-clause-rows c = let p = c.args.self.now.holder.pass.now in let k = c.shut_keys.new in let u = c.refill_keys.new in
    subst (λ (x : Guarded). Turns (Retold u.kept.store) (Touches (share p).limit (tree_now p) (request_of c.args.call.now)) (rows_at p x) (rows_at u.holder.pass.now u.kept)) c.deref_mut-kept.ensures.value (
    retold_call u.kept.store _ p _ (rows_at k.holder.pass.now k.kept) _ _ (words_of c.commit.new.self.pass.now) (request_of c.args.call.now) (map key_shown c.as_slice-keys.result.now) _ (sym (length-map c.as_slice-keys.result.now key_shown))
    (ap (map key_shown) c.as_slice-keys.ensures.value ∙ (c.keys-keys.ensures ∙ c.requires.plans.keys)) c.calls_touch_the_listed_keys.ensures.keys c.requires.well c.shut_keys.ensures.rows
    (rows_stay k.holder.pass.now c.commit.new.self.pass.now (request_of c.args.call.now) c.commit.ensures.same c.commit.ensures.view) c.refill_keys.ensures.tree.tree c.refill_keys.ensures.rows)

pub returns-in-Err-clause-rows : goal.returns-in-Err-clause-rows
returns-in-Err-clause-rows c = let p = c.args.self.now.holder.pass.now in let k = c.shut_keys.new in let u = c.refill_keys-in-Err.new in
    subst (λ (x : Guarded). Turns (Retold u.kept.store) (Touches (share p).limit (tree_now p) (request_of c.args.call.now)) (rows_at p x) (rows_at u.holder.pass.now u.kept)) c.deref_mut-kept.ensures.value (
    retold_call u.kept.store _ p _ (rows_at k.holder.pass.now k.kept) _ _ (words_of k.holder.pass.now) (request_of c.args.call.now) (map key_shown c.as_slice-keys.result.now) _ (sym (length-map c.as_slice-keys.result.now key_shown))
    (ap (map key_shown) c.as_slice-keys.ensures.value ∙ (c.keys-keys.ensures ∙ c.requires.plans.keys)) c.calls_touch_the_listed_keys.ensures.keys c.requires.well c.shut_keys.ensures.rows
    (λ row. refl) c.refill_keys-in-Err.ensures.tree.tree c.refill_keys-in-Err.ensures.rows)

pub invariant_of-self-in-Err : goal.invariant_of-self-in-Err
invariant_of-self-in-Err c = let p = c.args.self.now.holder.pass.now in let home = home_is p c.deref_mut-kept.ensures.value c.args.self.now.rests in let k = c.shut_keys in let u = c.refill_keys-in-Err in let t = u.ensures.tree in record {
  rests = home_kept p u.new.holder.pass.now (then_only p k.new.holder.pass.now u.new.holder.pass.now k.ensures.pass u.ensures.pass) c.deref_mut-kept.result.now u.new.kept home
      record { tree = t.tree ∙ (c.in-Err.ensures.err ∙ k.ensures.tree.tree); clock = t.clock ∙ k.ensures.tree.clock; same_limit = t.same_limit ∙ k.ensures.tree.same_limit } _ _ u.ensures.stage;
}

use Rattle.std.proofs.Common.{◌≡◌, length, arith, ap, ◌∙◌, ◌++◌, map, take, drop, get_or, set}
use Rattle.std.proofs.lemmas.List.{get_or_default}
use Rattle.std.proofs.lemmas.List.Edits.{map_over_more}
use Rattle.dc_sleepers.specs.declared.lock.Thread.{Thread}
use Rattle.dc_sleepers.specs.Locks.{idle, roused, is_asleep}
use Rattle.dc_sleepers.specs.LocksShown.{shown}
use Rattle.dc_sleepers.proofs.Mapped.{map_all, refilled}
use Rattle.dc_sleepers.proofs.locking.State.rouse.Goals as goal

pub loop-one-preserved : goal.loop-one-preserved
loop-one-preserved c = let xs = c.loop-one.one-items in let i = c.loop-one.one-index in
    ap (λ (x : Thread). set xs i x) c.woken.ensures ∙ map_over_more (roused is_asleep) c.deref_mut-one-items.result.now xs i (get_or xs i idle) (omega arith) c.loop-one.invariant (get_or_default xs i idle _ (omega arith))

pub returns : goal.returns
returns c = let s = c.args.self.now in
    let all : c.loop-one.one-items ≡ map (roused is_asleep) s.threads.items = map_all (roused is_asleep) c.deref_mut-one-items.result.now c.loop-one.one-items c.loop-one.one-index c.loop-one-test.false c.loop-one.invariant ∙ ap (map (roused is_asleep)) c.deref_mut-one-items.ensures.value in
    let len : take s.threads.len (c.loop-one.one-items ++ drop (length c.loop-one.one-items) s.threads.items) ≡ c.loop-one.one-items = refilled s.threads.len c.loop-one.one-items s.threads.items (omega (arith, ap length c.deref_mut-one-items.ensures.value)) (omega (arith, ap length c.deref_mut-one-items.ensures.value, c.deref_mut-one-items.ensures.len)) in
    λ i. record (shown s) { threads = (len ∙ all) i }

use Rattle.std.proofs.Common.{◌≡◌, ◌≤◌, ◌<◌, true, arith, ap, sym, ◌∙◌}
use Rattle.std.proofs.lemmas.List.{get_or_default}
use Rattle.dc_sleepers.specs.declared.gate.Thread.{Thread}
use Rattle.dc_sleepers.specs.Gates.{State, idle, thread_of}
use Rattle.dc_sleepers.specs.GatesShown.{shown}
use Rattle.dc_sleepers.proofs.GateNext.{in_range}
use Rattle.dc_sleepers.proofs.passing.State.serve.Goals as goal

pub overflow_add-self : goal.overflow_add-self
overflow_add-self c = let s = shown c.args.self.now in let t = c.args.thread in
    let has : (thread_of s t).has_ticket ≡ true = ap (λ (x : Thread). x.has_ticket) (get_or_default s.threads t idle c.index-one.result.now c.requires.there ∙ sym c.index-one.ensures) ∙ c.if-one.true in
    let range : (s.served ≤ (thread_of s t).ticket) × ((thread_of s t).ticket < s.tickets) = in_range s c.requires.sound.fair t has in
    let same : c.put-done.new.self.served ≡ s.served = ap (λ (x : State). x.served) (c.put-done.ensures.made c.if-done.true).1 in omega (arith, same)

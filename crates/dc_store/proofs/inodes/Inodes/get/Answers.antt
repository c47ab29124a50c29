use Rattle.std.proofs.Common.{sym, ◌∙◌}
use Rattle.dc_store.proofs.SlotSteps.{in_order, in_slot, nowhere}
use Rattle.dc_store.proofs.inodes.Inodes.get.Goals as goal

pub returns-in_err-key-clause-value : goal.returns-in_err-key-clause-value
returns-in_err-key-clause-value c = rw c.from_residual.ensures (sym (nowhere c.self.invariant c.self.view_is c.args.number (sym c.in_err-key.ensures.value)))

pub returns-in_err-key-clause-in_order : goal.returns-in_err-key-clause-in_order
returns-in_err-key-clause-in_order c = in_order c.self.invariant c.self.view_is

pub returns-clause-in_order : goal.returns-clause-in_order
returns-clause-in_order c = in_order c.self.invariant c.self.view_is

pub returns-clause-value : goal.returns-clause-value
returns-clause-value c = c.get-2.ensures ∙ sym (in_slot c.self.invariant c.self.view_is c.args.number (sym c.in_ok-key.ensures.value))

use Rattle.std.proofs.Common.{sym, ◌∙◌}
use Rattle.dc_store.proofs.SlotSteps.{dropped, dropped-IsKept, kept_as, none_dropped, view_as}
use Rattle.dc_store.proofs.inodes.Inodes.remove.Goals as goal

pub invariant_of-self : goal.invariant_of-self
invariant_of-self c =
    dropped-IsKept c.self.invariant c.self.view_is c.args.number (sym c.in-Some.ensures.value) c.remove-in-Some.ensures.updates c.remove.new.self c.remove.ensures.ordered c.in-Some.ensures.rest
    c.in-Some.ensures.shorter c.remove-in-Some.ensures.len

pub invariant_of-self-in_default : goal.invariant_of-self-in_default
invariant_of-self-in_default c = kept_as c.in_default.ensures.same c.self.inside.slab c.self.invariant

pub returns-in-Some : goal.returns-in-Some
returns-in-Some c = dropped c.self.invariant c.self.view_is c.args.number (sym c.in-Some.ensures.value) c.remove-in-Some.ensures.updates c.remove.new.self c.remove.ensures.ordered c.in-Some.ensures.rest

pub returns-in_default : goal.returns-in_default
returns-in_default c = view_as c.in_default.ensures.same c.self.inside.slab c.self.view_is ∙ none_dropped c.self.invariant c.self.view_is c.args.number (sym c.in_default.ensures.value)

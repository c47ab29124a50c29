use Rattle.std.proofs.Common.{inl, inr, sym, ◌∙◌}
use Rattle.dc_store.proofs.SlotSteps.{in_order, in_slot, kept_as, key_as, nowhere, view_as, written, written-IsKept}
use Rattle.dc_store.proofs.inodes.Inodes.get_mut.Goals as goal

pub invariant_of-self-lent : goal.invariant_of-self-lent
invariant_of-self-lent c w =
    let same = c.in_ok-key.ensures.same in
    written-IsKept (kept_as same c.self.inside.slab c.self.invariant) (view_as same c.self.inside.slab c.self.view_is) c.args.number (key_as same c.args.number c.in_ok-key.ensures.value) w

pub returns-in_err-key : goal.returns-in_err-key
returns-in_err-key c =
    let value = sym (nowhere c.self.invariant c.self.view_is c.args.number (sym c.in_err-key.ensures.value)) in
    let view = view_as c.in_err-key.ensures.same c.self.inside.slab c.self.view_is in
    rw c.from_residual.ensures ((λ i. inr (view i)), record { writes_back = tt; value = value; in_order = in_order c.self.invariant c.self.view_is })

pub returns : goal.returns
returns c =
    let same = c.in_ok-key.ensures.same in
    let value = sym (in_slot c.self.invariant c.self.view_is c.args.number (sym c.in_ok-key.ensures.value) ∙ c.index_mut.ensures.value) in
    let kept = kept_as same c.self.inside.slab c.self.invariant in
    let view = view_as same c.self.inside.slab c.self.view_is in
    let at = key_as same c.args.number c.in_ok-key.ensures.value in
    ((λ i. inl (c.index_mut.result.ghost_name, λ w. written kept view c.args.number at w i)), record { writes_back = tt; value = value; in_order = in_order c.self.invariant c.self.view_is })

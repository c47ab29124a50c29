use Rattle.std.proofs.Common.{option_and_then, ap, ◌∙◌}
use Rattle.std.specs.FinMap.Entries.{find}
use Rattle.dc_store.specs.Names.{name_cmp}
use Rattle.dc_store.specs.declared.inode.Inode.{Inode}
use Rattle.dc_store.proofs.Keeps.{keeps_now}
use Rattle.dc_store.proofs.KeepsMoved.{led_entry}
use Rattle.dc_store.proofs.slab_store.SlabStoreStore.find.Goals as goal

pub returns-in_err-get-clause-target : goal.returns-in_err-get-clause-target
returns-in_err-get-clause-target c =
    c.from_residual.ensures ∙ ap (option_and_then (λ (i : Inode). find name_cmp c.args.name.bytes.now i.names)) c.in_err-get.ensures.value
    ∙ led_entry (keeps_now c.self.invariant c.self.view_is) c.args.dir c.args.name.bytes.now

pub returns-clause-target : goal.returns-clause-target
returns-clause-target c =
    c.get-2.ensures ∙ ap (option_and_then (λ (i : Inode). find name_cmp c.args.name.bytes.now i.names)) c.in_ok-get.ensures.value
    ∙ led_entry (keeps_now c.self.invariant c.self.view_is) c.args.dir c.args.name.bytes.now

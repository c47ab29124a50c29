use Rattle.std.proofs.Common.{◌≡◌, map}
use Rattle.dc_store.specs.Pages.{entry_told, led_shown, told_in}
use Rattle.dc_store.proofs.slab_store.SlabStore.with_kinds.Given as goal

abbrev pub invariant-loop-name : goal.invariant-loop-name
invariant-loop-name l = map entry_told l.page.items ≡ map (λ led. told_in l.self (led_shown led)) l.yielded

use Rattle.std.proofs.Common.{◌≡◌, ◌≤◌, length, map}
use Rattle.std.specs.Map.Iter.{deref_pair}
use Rattle.dc_store.specs.Pages.{led_shown}
use Rattle.dc_store.proofs.pages.first_of.Given as goal

abbrev pub invariant-loop-name : goal.invariant-loop-name
invariant-loop-name l = (map led_shown l.page.items ≡ map deref_pair l.yielded) × (length l.page.items ≤ l.most)

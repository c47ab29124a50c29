use Rattle.std.proofs.Common.{◌≡◌, map}
use Rattle.dc_store.specs.Keys.{names_held}
use Rattle.dc_store.proofs.entries.Entries.list.Given as goal

abbrev pub invariant-loop-key : goal.invariant-loop-key
invariant-loop-key l = map (λ name. name.items) l.names.items ≡ names_held l.dir (map (λ key. key.now.items) l.yielded)

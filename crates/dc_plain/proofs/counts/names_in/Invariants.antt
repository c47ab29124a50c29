use Rattle.std.proofs.Common.{◌≡◌, ◌==◌, ◌++◌, map, filter, drop}
use Rattle.dc_plain.specs.Plain.{entry_shown}
use Rattle.dc_plain.proofs.counts.names_in.Given as goal

abbrev pub invariant-loop-entry : goal.invariant-loop-entry
invariant-loop-entry l =
    map (λ name. name.items) l.names.items ++ map (λ e. e.0.name) (filter (λ e. e.0.dir == l.dir) (map entry_shown (drop l.entry-index l.entries)))
    ≡ map (λ e. e.0.name) (filter (λ e. e.0.dir == l.dir) (map entry_shown l.entries))

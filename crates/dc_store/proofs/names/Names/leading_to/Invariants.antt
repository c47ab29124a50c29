use Rattle.std.proofs.Common.{◌≡◌, ◌==◌, false}
use Rattle.std.specs.List.{All}
use Rattle.dc_store.proofs.names.Names.leading_to.Given as goal

abbrev pub invariant-loop-key : goal.invariant-loop-key
invariant-loop-key l = All (λ x. (x.1.now == l.number) ≡ false) l.yielded

use Rattle.std.proofs.Common.{◌≡◌, ◌<◌, ◌==◌, ℕ, false, take, get_or}
use Rattle.dc_names.specs.Hash.{hash_from}
use Rattle.dc_names.proofs.components.hashed_piece.Given as goal

-- no slash stands there so far
abbrev pub invariant-loop-at : goal.invariant-loop-at
invariant-loop-at l = record {
  none : (k : ℕ) → k < l.at → (get_or l.bytes k 0 == 47) ≡ false;
  hash : l.hash ≡ hash_from l.fn.start (take l.at l.bytes);
}

use Rattle.std.proofs.Common.{rules}
use Rattle.std.proofs.lemmas.Fn.{always_returns_same}
use Rattle.std.proofs.lemmas.List.Sorted.{IsNonDecreasingBy-from_sort_by_key}
use Rattle.dc_check.specs.declared.stamp.Numbered as rust_numbered
use Rattle.dc_check.specs.Stamps.{stamps_of}
use Rattle.dc_check.proofs.Sorted.{sorted_are}
use Rattle.dc_check.proofs.order.by_point.Goals as goal

pub returns : goal.returns
returns c =
    let now = c.sort_by_key.new.self.items in
    sorted_are c.args.phases.now (stamps_of c.args.stamps.now) c.in_ok-sorted.sorted.items now c.in_ok-sorted.ensures c.sort_by_key.ensures.permutation
    (IsNonDecreasingBy-from_sort_by_key (λ (n : rust_numbered.Numbered). n.stamp.now.at) now c.in_ok-sort_by_key.ensures.sorted (λ a r q k. search rules))
    (c.sort_by_key.ensures.stable (λ n. n.stamp.now.at) (always_returns_same _ _ _ (λ a r q k. search rules)))

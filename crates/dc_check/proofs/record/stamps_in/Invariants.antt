use Rattle.std.proofs.Common.{◌≡◌, ◌++◌, drop, map}
use Rattle.dc_lang.specs.Bases.{first_bases}
use Rattle.dc_lang.specs.Responses.{response_of}
use Rattle.dc_check.specs.Records.{AreSessions, ArePaired, served_orders, stamps_from}
use Rattle.dc_check.specs.Stamps.{stamps_of}
use Rattle.dc_check.proofs.record.stamps_in.Given as goal

-- what is left pairs exactly if all of it does, and its stamps come behind those so far
abbrev pub invariant-loop-one : goal.invariant-loop-one
invariant-loop-one l = record {
  small : AreSessions (map response_of l.left.items);
  on : ArePaired (served_orders (drop l.one-index l.served)) (map response_of l.left.items) → ArePaired (served_orders l.served) (map response_of l.fn.replies.items);
  back : ArePaired (served_orders l.served) (map response_of l.fn.replies.items) → ArePaired (served_orders (drop l.one-index l.served)) (map response_of l.left.items);
  stamps : stamps_of l.stamps.items ++ stamps_from l.bases (served_orders (drop l.one-index l.served)) (map response_of l.left.items) ≡ stamps_from first_bases (served_orders l.served) (map response_of l.fn.replies.items);
}

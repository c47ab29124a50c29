-- The reply that is due to a stamped call.
use Rattle.std.specs.Prelude.{◌≡◌, ℕ, List}
use Rattle.dc_plain.specs.Legal.{Stamp}
use Rattle.dc_plain.specs.OwnCalls.{own_request}
use Rattle.dc_plain.specs.Requests.{answer_of}
use Rattle.dc_plain.specs.Runs.{reply_of}
use Rattle.dc_plain.specs.declared.call.Reply.{Reply}
use Rattle.dc_check.specs.Phases.{tree_at}
use Rattle.dc_check.specs.declared.stamp.Stamp as rust_stamp

-- the operation's, on the tree that these stamps led to at the call's point
abbrev pub IsDue : ℕ → List Stamp → rust_stamp.Stamp → Reply → Type 0
IsDue limit stamps stamp reply = answer_of reply ≡ reply_of limit (tree_at limit stamps stamp.at) (own_request stamp.call)

-- Stamps without where their bytes lie.
use Rattle.std.specs.Prelude.{List, map}
use Rattle.dc_plain.specs.OwnCalls.{own_request}
use Rattle.dc_plain.specs.Requests.{answer_of}
use Rattle.dc_plain.specs.Legal.{Stamp}
use Rattle.dc_check.specs.declared.stamp.Stamp as rust_stamp

-- a session is an actor
abbrev pub stamp_of : rust_stamp.Stamp → Stamp
stamp_of stamp = record { actor = stamp.session; request = own_request stamp.call; answer = answer_of stamp.reply; at = stamp.at }

abbrev pub stamps_of : List rust_stamp.Stamp → List Stamp
stamps_of stamps = map stamp_of stamps

-- Which calls are changes, and which reads are answered without memory.
use Rattle.std.specs.Prelude.{◌≡◌}
use Rattle.dc_plain.specs.declared.call.Call.{Call}
use Rattle.dc_plain.specs.declared.call.Sort.TheVariants.{Change, Sought, Told}
use Rattle.dc_plain.specs.Requests.{request_of, sort_of}

-- a call that may alter the tree
abbrev pub IsChange : Call → Type 0
IsChange call = sort_of (request_of call) ≡ Change

-- a read whose answer takes no memory
abbrev pub IsSought : Call → Type 0
IsSought call = sort_of (request_of call) ≡ Sought

-- a read whose answer takes memory
abbrev pub IsToldAtLength : Call → Type 0
IsToldAtLength call = sort_of (request_of call) ≡ Told

-- What facts answer to a call, and which of them it touches.
use Rattle.std.specs.Prelude.{◌≡◌, List, map, Option}
use Rattle.dc_plain.specs.declared.call.Call as rust_call
use Rattle.dc_plain.specs.declared.fact.Fact as rust_fact
use Rattle.dc_plain.specs.declared.key.Key as rust_key
use Rattle.dc_plain.specs.FactLaws.{answer_told}
use Rattle.dc_plain.specs.Facts.{key_of, told_by}
use Rattle.dc_plain.specs.FactsShown.{fact_shown}
use Rattle.dc_plain.specs.KeysShown.{key_shown}
use Rattle.dc_plain.specs.Machines.{Machine}
use Rattle.dc_plain.specs.Requests.{Answer, request_of}
use Rattle.dc_plain.specs.Runs.{Touches}
use Rattle.dc_plain.specs.Trees.{Tree, fact_at}

-- the answer that follows from some facts, if it does
abbrev pub answer_by : List rust_fact.Fact → rust_call.Call → Option Answer
answer_by facts call = answer_told (told_by (map fact_shown facts)) (request_of call)

-- after the call another fact stands under a fact's key
abbrev pub TouchesFact : Machine → rust_call.Call → rust_fact.Fact → Type 0
TouchesFact machine call fact = Touches machine.limit machine.tree (request_of call) (key_of (fact_shown fact))

-- two trees say the same of a key
abbrev pub SaySame : Tree → Tree → rust_key.Key → Type 0
SaySame t u key = fact_at t (key_shown key) ≡ fact_at u (key_shown key)

use Rattle.std.proofs.Common.{rules, ℕ, Option, subst}
use Rattle.dc_plain.specs.KeysShown.{key_shown}
use Rattle.dc_names.specs.declared.limits.TheConstants.{BUCKET_ROWS}
use Rattle.dc_walk.specs.Asking.{first_row}
use Rattle.dc_walk.specs.Causes.{Looked}
use Rattle.dc_walk.proofs.question.why_of.Goals as goal

pub returns-in-None-Name : goal.returns-in-None-Name
returns-in-None-Name c outcome buckets v looked asks size = let key = key_shown c.args.key in
    let none = subst (λ (o : Option ℕ). Looked v (first_row buckets key) key o BUCKET_ROWS) c.in-None-Name.is-0 looked in
    (key, search rules, record { asks = asks; rows = none.others }, size)

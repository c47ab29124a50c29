use Rattle.std.proofs.Common.{refl, rules}
use Rattle.dc_plain.proofs.plain.PlainTree.readlink.Goals as goal

pub returns-in_err-number-clause-found : goal.returns-in_err-number-clause-found
returns-in_err-number-clause-found c = search rules

pub returns-in_default-clause-found : goal.returns-in_default-clause-found
returns-in_default-clause-found c = λ refusal is. rw (c.in_ok-number.ensures, ← c.in_default.ensures) (cc)

pub returns-clause-found : goal.returns-clause-found
returns-clause-found c = rw (c.in_ok-number.ensures, ← c.in-Some.ensures, c.in_ok-from_slice.ensures.items, c.bytes.ensures.bytes) refl

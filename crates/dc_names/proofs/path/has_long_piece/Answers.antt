use Rattle.std.proofs.Common.{◌≡◌, rules, tests, arith, sym, ◌∙◌, ◌==◌, length, false, nat_lt}
use Rattle.std.proofs.lemmas.Iterator.Splits.{YieldsList-from_slice_split}
use Rattle.std.proofs.lemmas.Iterator.Search.{any_from_yields_List}
use Rattle.dc_names.specs.declared.limits.TheConstants.{NAME_MAX}
use Rattle.dc_names.proofs.Short.{none_long_in}
use Rattle.dc_names.proofs.path.has_long_piece.Goals as goal

pub returns-then-bytes-gt-NAME_MAX : goal.returns-then-bytes-gt-NAME_MAX
returns-then-bytes-gt-NAME_MAX c = any_from_yields_List (λ piece. nat_lt NAME_MAX (length piece)) _ _ _ c.any.ensures.ran
    (YieldsList-from_slice_split _ (λ b. b == 47) c.args.bytes.now c.split.ensures.rest c.split.ensures.done c.split.ensures.closure (λ x b q called. search (rules, tests)))
    (λ x r q called. search (rules, tests))

pub returns-else-bytes-gt-NAME_MAX : goal.returns-else-bytes-gt-NAME_MAX
returns-else-bytes-gt-NAME_MAX c =
    let test : nat_lt NAME_MAX (length c.args.bytes.now) ≡ false = search (rules, tests) in
    test ∙ sym (none_long_in NAME_MAX c.args.bytes.now (omega arith))

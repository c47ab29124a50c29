use Rattle.std.proofs.Common.{◌==◌, ◌∙◌, rules, sym, tests}
use Rattle.std.proofs.lemmas.Iterator.{YieldsList-from_slice}
use Rattle.std.proofs.lemmas.Iterator.Adapters.{option_map_id}
use Rattle.std.proofs.lemmas.Iterator.Consumers.{YieldsList-from_copied}
use Rattle.std.proofs.lemmas.Iterator.Search.{find_from_yields_List}
use Rattle.dc_names.specs.Refusals.{refusal_number}
use Rattle.dc_names.specs.declared.refusal.TheConstants.{REFUSALS}
use Rattle.dc_names.proofs.refusal.first_with.Goals as goal

pub returns : goal.returns
returns c =
    sym (option_map_id c.find.result)
    ∙ find_from_yields_List (λ refusal. refusal_number refusal == c.args.number) _ _ _ c.find.ensures.ran (YieldsList-from_copied (YieldsList-from_slice REFUSALS cc)) (λ x b q called. search (rules, tests))

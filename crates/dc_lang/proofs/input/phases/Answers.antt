use Rattle.std.proofs.Common.{rules}
use Rattle.std.proofs.lemmas.Iterator.Consumers.{map_from_collect}
use Rattle.std.proofs.lemmas.Iterator.Splits.{YieldsList-from_slice_split}
use Rattle.std.proofs.lemmas.Result.{IfOk-weaker}
use Rattle.dc_lang.specs.Commands.{meaning_of}
use Rattle.dc_lang.specs.Phases.{is_sync}
use Rattle.dc_lang.proofs.Splits.{phases-of_parts}
use Rattle.dc_lang.proofs.input.phases.Goals as goal

pub returns : goal.returns
returns c =
    let cut = map_from_collect _ c.collect.ensures.ran (YieldsList-from_slice_split _ (λ line. is_sync (meaning_of line)) c.args.lines.now c.split.ensures.rest c.split.ensures.done c.split.ensures.closure (search rules)) in
    IfOk-weaker c.collect.result _ _ (λ parts is. phases-of_parts c.args.lines.now parts.items is) cut

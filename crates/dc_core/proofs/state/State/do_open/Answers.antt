use Rattle.std.proofs.Common.{◌+◌, ap, ◌∙◌, get_or, set, rules}
use Rattle.dc_core.specs.Shown.{state_of}
use Rattle.dc_core.proofs.Kept.{number}
use Rattle.dc_core.proofs.state.State.do_open.Goals as goal

pub returns : goal.returns
returns c = let s = c.args.self.now in let words = s.words.items in let at = c.base-at.ensures in
    let count = number words c.base-at.result c.index_mut.result.now (search rules) c.index_mut.ensures.value ∙ ap (λ k. get_or words k 0) at in
    λ i. record (state_of s) { words = set words (at i) (count i + 1) }

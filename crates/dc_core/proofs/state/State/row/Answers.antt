use Rattle.std.proofs.Common.{◌≡◌, ℕ, List, ◌+◌, ◌-◌, ◌≤◌, take, drop, length, ap, ◌∙◌, arith}
use Rattle.dc_names.specs.declared.limits.TheConstants.{ROW_WORDS}
use Rattle.dc_events.specs.Rows.{base_of}
use Rattle.dc_core.proofs.Rowed.{words_between}
use Rattle.dc_core.proofs.state.State.row.Goals as goal

pub returns : goal.returns
returns c = let words = c.args.self.now.words.items in let base = c.base-base.result in let row = c.args.row in
    let many : base + ROW_WORDS - base ≡ ROW_WORDS = omega arith in
    let at : base ≡ base_of row = c.base-base.ensures in
    let within : base_of row + ROW_WORDS ≤ length words = let wide = c.requires.wide in let room = c.requires.room in omega arith in
    ap (λ (n : ℕ). take n (drop base c.deref.result.now)) many ∙ ap (λ (ws : List ℕ). take ROW_WORDS (drop base ws)) c.deref.ensures.value
    ∙ ap (λ (k : ℕ). take ROW_WORDS (drop k words)) at ∙ words_between words (base_of row) ROW_WORDS within

use Rattle.std.proofs.Common.{◌≡◌, ◌==◌, ◌∙◌, rules}
use Rattle.std.proofs.iter.runs.Made.{chains}
use Rattle.std.specs.Prelude.{count_by}
use Rattle.dc_plain.specs.Plain.{entry_shown}
use Rattle.dc_plain.proofs.PassingRows.{counted_rows}
use Rattle.dc_plain.proofs.counts.leading_to.Goals as goal

pub returns : goal.returns
returns c =
    let counted : c.count.result ≡ count_by (λ e. e.target == c.args.number) c.args.entries.now = search (rules, chains) in
    counted ∙ counted_rows (λ e. e.1 == c.args.number) entry_shown c.args.entries.now

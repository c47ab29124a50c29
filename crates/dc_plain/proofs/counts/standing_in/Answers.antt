use Rattle.std.proofs.Common.{◌≡◌, ◌==◌, ◌∙◌, rules}
use Rattle.std.proofs.iter.runs.Made.{chains}
use Rattle.std.specs.Prelude.{count_by}
use Rattle.dc_plain.specs.Plain.{entry_shown}
use Rattle.dc_plain.proofs.PassingRows.{passing_rows}
use Rattle.dc_plain.proofs.counts.standing_in.Goals as goal

pub returns : goal.returns
returns c =
    let counted : c.count.result ≡ count_by (λ e. e.dir == c.args.dir) c.args.entries.now = search (rules, chains) in
    counted ∙ passing_rows (λ e. e.0.dir == c.args.dir) entry_shown c.args.entries.now

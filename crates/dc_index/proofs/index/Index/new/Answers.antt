use Rattle.std.proofs.Common.{◌*◌, ap, ◌∙◌}
use Rattle.dc_index.specs.Slots.{slot_of}
use Rattle.dc_index.proofs.Kept.{kept_new, shown_free, all_free}
use Rattle.dc_index.proofs.index.Index.new.Goals as goal

pub invariant_of-result : goal.invariant_of-result
invariant_of-result c = rw (c.in_ok-slots.ensures, shown_free 0 (4 * c.args.buckets)) (kept_new c.args.buckets c.requires.0 c.requires.1)

pub returns-clause-new : goal.returns-clause-new
returns-clause-new c = rw c.in_ok-slots.ensures (shown_free 0 (4 * c.args.buckets))

pub returns-clause-free : goal.returns-clause-free
returns-clause-free c row = ap (λ slots. slot_of slots row) (returns-clause-new c) ∙ all_free (4 * c.args.buckets) row

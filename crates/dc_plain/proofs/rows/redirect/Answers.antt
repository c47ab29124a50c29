use Rattle.std.proofs.Common.{ap, arith}
use Rattle.dc_plain.specs.Plain.{entry_shown}
use Rattle.dc_plain.specs.Spots.{spot_at}
use Rattle.dc_plain.specs.declared.rows.Entry as rust_entry
use Rattle.dc_plain.proofs.RowSteps.{entry_set, entry_within}
use Rattle.dc_plain.proofs.rows.redirect.Goals as goal

pub index_mut-requires : goal.index_mut-requires
index_mut-requires c =
    let within = entry_within (spot_at c.args.dir c.args.name.now) c.args.entries.now.items c.requires.sorted c.requires.there _ _ c.entry_position-at.ensures c.deref.ensures.value in
    omega arith

pub returns : goal.returns
returns c =
    let same = ap (λ (e : rust_entry.Entry). ((entry_shown e).0, c.args.target)) c.index_mut.ensures.value in
    entry_set (spot_at c.args.dir c.args.name.now) c.args.entries.now.items c.requires.sorted c.requires.there _ _ c.entry_position-at.ensures c.deref.ensures.value c.args.target _ c.index_mut.result.now same

use Rattle.std.proofs.Common.{◌++◌, ap, ◌∙◌}
use Rattle.dc_store.specs.Keys.{number_bytes}
use Rattle.dc_store.proofs.Keys.{length-number_bytes}
use Rattle.dc_store.proofs.Spelled.{written}
use Rattle.dc_store.proofs.entry_bytes.EntryBytes.new.Goals as goal

pub returns : goal.returns
unfolding number_bytes
returns c =
    written 8 (number_bytes c.args.dir) c.to_be_bytes.result c.bytes-name.result.now _ c.put_at.new.bytes c.put_at-2.new.bytes (length-number_bytes c.args.dir) c.to_be_bytes.ensures c.put_at.ensures c.put_at-2.ensures
    ∙ ap (λ xs. number_bytes c.args.dir ++ xs) c.bytes-name.ensures.bytes

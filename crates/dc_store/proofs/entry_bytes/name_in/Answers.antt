use Rattle.dc_store.specs.Keys.{number_bytes}
use Rattle.dc_store.proofs.Spelled.{stripped}
use Rattle.dc_store.proofs.entry_bytes.name_in.Goals as goal

pub returns : goal.returns
unfolding number_bytes
returns c = stripped c.args.dir c.args.key.now c.to_be_bytes.result c.to_be_bytes.ensures c.strip_prefix.result c.strip_prefix.ensures.cases

-- What the facts of the program stand for.
use Rattle.dc_plain.specs.Facts.{Fact}
use Rattle.dc_plain.specs.Facts.Fact.{Leads, Reads}
use Rattle.dc_plain.specs.KeysShown.{label_shown}
use Rattle.dc_plain.specs.declared.fact.Fact as rust_fact
use Rattle.dc_plain.specs.declared.fact.Fact.TheVariants as facts

-- a fact without where its bytes lie
abbrev pub fact_shown : rust_fact.Fact → Fact
fact_shown (facts.Entry directory label target) = Leads directory (label_shown label) target
fact_shown (facts.Text number text) = Reads number text.bytes.now

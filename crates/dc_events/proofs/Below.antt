-- The laws of the crates below that the lemmas of walks are given.
use Rattle.dc_plain.specs.FactLaws.{RepliesByFacts}
use Rattle.dc_plain.specs.LivingLaws.{SameTreeDecides}
use Rattle.dc_row.specs.Decoding.{SpelledIsRead}

pub record FactsBelow : Type 0 where
  pub read : SpelledIsRead
  pub replies : RepliesByFacts
  pub same : SameTreeDecides

-- What the proofs of the stores rest on: the laws of a plain tree and of the effects on it.
use Rattle.dc_plain.specs.EffectLaws.{NewKeepsWellFormed, FurtherNameKeepsWellFormed, LostNameKeepsWellFormed, MoveKeepsWellFormed, SwapKeepsWellFormed, NewChanges, FurtherNameChanges, LostNameChanges, MoveChanges, SwapChanges}
use Rattle.dc_plain.specs.LivingLaws.{NamesLeadToTheLiving, NextNumberIsUnused}

-- what an effect keeps and what it changes, where a name leads, and the next number
pub record TreeLaws : Type 0 where
  pub new_keeps : NewKeepsWellFormed
  pub further_keeps : FurtherNameKeepsWellFormed
  pub lost_keeps : LostNameKeepsWellFormed
  pub move_keeps : MoveKeepsWellFormed
  pub swap_keeps : SwapKeepsWellFormed
  pub new : NewChanges
  pub further : FurtherNameChanges
  pub lost : LostNameChanges
  pub move : MoveChanges
  pub swap : SwapChanges
  pub names : NamesLeadToTheLiving
  pub next : NextNumberIsUnused

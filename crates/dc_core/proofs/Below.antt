-- The laws of the events that the lemmas are given.
use Rattle.dc_events.specs.Laws.{HoldersKeepTheRule, WalkersKeepTheRule, LoadsTellNothing}

pub record EventsBelow : Type 0 where
  pub holders : HoldersKeepTheRule
  pub walkers : WalkersKeepTheRule
  pub loads : LoadsTellNothing

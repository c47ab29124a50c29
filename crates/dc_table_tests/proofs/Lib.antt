-- Lemmas for walks that a test takes by hand.
pub mod Agreeing
pub mod ByHand

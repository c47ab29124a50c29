-- Lemmas on trails.
pub mod Among
pub mod Telling
pub mod Resolving
pub mod Asking
pub mod Turns
pub mod Ending
pub mod WorkedTrails

-- Lemmas about the rule of the table, which each step keeps, and about shares.
pub mod Totals
pub mod Sharing
pub mod Cells
pub mod Kept
pub mod Moves
pub mod Ending
pub mod Walks

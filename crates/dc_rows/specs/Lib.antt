-- Which rows are filled, shut, pinned and emptied, and what a change is.
pub mod Narrow
pub mod Rows
pub mod Changes
pub mod Filling
pub mod RowChanges
pub mod Guards
pub mod Refills
pub mod OddRows
pub mod Outcomes

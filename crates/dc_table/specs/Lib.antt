-- What the shared table keeps, and what its passes know.
pub mod Codes
pub mod ViewCodes
pub mod RowStates
pub mod RowCodes
pub mod Shares
pub mod Boxes
pub mod Rows
pub mod Kept
pub mod Plays
pub mod Passes
pub mod Turns
pub mod Holders
pub mod Ends
pub mod Changes
pub mod Walking

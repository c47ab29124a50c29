-- Lemmas about records, the order that stamps give them, and the judge of their replies.
pub mod Replies
pub mod Stamps
pub mod Sound
pub mod Orders
pub mod Complete
pub mod Points
pub mod Exact
pub mod Judged
pub mod Steps
pub mod Floors
pub mod Sorted
pub mod Ends
pub mod Reached
pub mod Items
pub mod InOrder
pub mod PhaseOrder
pub mod Pairing

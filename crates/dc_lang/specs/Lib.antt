-- The texts of commands and of replies, and what a whole input says.
pub mod Words
pub mod Commands
pub mod Reading
pub mod Replies
pub mod Responses
pub mod ReadingReplies
pub mod Writing
pub mod Bases
pub mod Inputs
pub mod Lines
pub mod Phases
pub mod Spans
pub mod Served

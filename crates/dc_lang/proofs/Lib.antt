-- Lemmas about lines, sessions, phases and replies as text.
pub mod Words
pub mod Parts
pub mod Sessions
pub mod Lines
pub mod Numbers
pub mod AnswerWords
pub mod Responses
pub mod ReplyLines
mod WorkedLines
pub mod LinesLemmas
pub mod Readings
pub mod Splits
pub mod Serving

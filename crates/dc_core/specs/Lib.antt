-- The core as plain data, when an event is refused, what it does, and where in a list of events a call begins and ends.
pub mod Machine
pub mod Refusals
pub mod Lives
pub mod Spans
pub mod Shown
pub mod Memory
pub mod Told
pub mod Labels
pub mod Listed
pub mod Steps
pub mod AsTable
pub mod Cores

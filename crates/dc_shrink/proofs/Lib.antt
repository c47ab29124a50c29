-- Lemmas about the list by last use and the pins.
pub mod Lists
pub mod Entries
pub mod Orders
pub mod Listed
pub mod Steps
pub mod Uses
pub mod Promoted
pub mod Pinned

-- Lemmas about events and views, of which the laws are made.
pub mod Below
pub mod Words
pub mod Later
pub mod Totals
pub mod Steps
pub mod Records
pub mod Facts
pub mod Holder
pub mod Rows
pub mod Walker
pub mod Walks
pub mod Kept
pub mod Legal
pub mod Opening
pub mod Passes

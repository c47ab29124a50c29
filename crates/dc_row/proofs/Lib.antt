-- Lemmas about the words of a row and what they spell.
pub mod Written
pub mod Read
pub mod Labels
pub mod Compared
pub mod Filled
pub mod Packed
pub mod Decoded
pub mod Paths
pub mod Texts
pub mod Lanes
pub mod Empty
pub mod Entries
pub mod Firsts
pub mod Roomed

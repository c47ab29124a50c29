-- Lemmas about which row has which key, and about the row that a key may get.
pub mod Keys
pub mod Places
pub mod Powers
pub mod Kept
pub mod Chosen

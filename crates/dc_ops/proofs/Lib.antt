-- Lemmas about plans, what they touch, what they leave of a tree, and names in known directories.
pub mod Rooms
pub mod Goes
pub mod Looks
pub mod Parents
pub mod Renamed
pub mod Distinct
pub mod Alters
pub mod Knowing
pub mod LastNames
pub mod Takings
pub mod SpelledNames
pub mod Ways
pub mod Climbing

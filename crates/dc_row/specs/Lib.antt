-- The rows of the cache, and the words that spell them.
pub mod Rooms
pub mod Rows
pub mod Spelling
pub mod Decoding
pub mod Narrow
pub mod Short
pub mod Laws

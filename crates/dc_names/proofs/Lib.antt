-- Lemmas about the parts of a path, and about bytes as words.
pub mod Parts
pub mod Valid
pub mod Named
pub mod Numbered
pub mod Packed
pub mod Short
pub mod Chunks
pub mod Lasts

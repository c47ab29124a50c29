-- Which key stands in which row.
pub mod Slots
pub mod OwnKeys
pub mod Choices
pub mod Hashed

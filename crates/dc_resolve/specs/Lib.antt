-- What a walk asks, and where it ends.
pub mod Asked
pub mod Fronts
pub mod Steps
pub mod Walks
pub mod Spends
pub mod Ends
pub mod Finders
pub mod Needs
pub mod Unasked
pub mod Resolves

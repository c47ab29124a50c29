-- Lemmas about a path that is resolved name by name, and by links.
pub mod Placing
pub mod Fronts
pub mod Going
pub mod Alone
pub mod Passing
pub mod Following
pub mod Needed
pub mod Splits
pub mod Spending
pub mod Walking
pub mod Slashes

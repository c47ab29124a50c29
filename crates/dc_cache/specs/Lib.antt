-- What a caller knows of its pass, and what a call leaves in it.
pub mod Calls
pub mod Passes
pub mod Answers
pub mod Holds
pub mod Fillings
pub mod Links
pub mod Losses
pub mod Whereabouts
pub mod Pages
pub mod Trails

-- What a look-up passes through, and how a walk keeps it.
pub mod Questions
pub mod Parts
pub mod Keeping
pub mod Places

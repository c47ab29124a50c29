-- What a handle owns, and what the functions for C do.
pub mod Owned
pub mod Holding
pub mod Answering
pub mod Shapes
pub mod Whereabouts
pub mod Pages
pub mod Trails

-- What a name and a path are, as lists of bytes.
pub mod Bytes
pub mod Paths
pub mod Names
pub mod Refusals
pub mod Lasts
pub mod Laws
pub mod Hash
pub mod Sizes
pub mod Words
pub mod Tables

-- What plans do to the plain tree of a store.
pub mod Asked
pub mod Keys
pub mod Plans
pub mod Pages
pub mod Reads
pub mod Renames
pub mod Makes
pub mod Same
pub mod Replaced
pub mod Settled
pub mod Taken
pub mod Found
pub mod Knowing
pub mod Whereabouts

-- What a store's calls say of the plain tree that it stands for.
pub mod Added
pub mod Keys
pub mod Counts
pub mod Dropped
pub mod Maps
pub mod Moved
pub mod Fronts
pub mod Names
pub mod Inodes
pub mod Slots
pub mod Lending
pub mod Slabs
pub mod Laws
pub mod Nodes
pub mod Pages
pub mod PageLaws

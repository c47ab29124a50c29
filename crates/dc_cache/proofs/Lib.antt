-- Lemmas about reads, look-ups of links, and what a change takes away.
pub mod Tellings
pub mod ReadLinks
pub mod Taken
pub mod Takes
pub mod Wheres
pub mod Paged
pub mod Looking
pub mod Alongs

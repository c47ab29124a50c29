-- The rows in use, by last use, and their pins.
pub mod Listings
pub mod Orders
pub mod Uses

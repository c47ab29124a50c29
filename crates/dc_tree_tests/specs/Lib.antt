-- The table that answers the walks under test.
pub mod Tables

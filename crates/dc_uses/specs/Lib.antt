-- What two calls leave in a pass.
pub mod Both

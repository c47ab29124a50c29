-- The rule of the shared words, the views of the actors, what each event does to them.
pub mod Views
pub mod Standing
pub mod Rows
pub mod Rule
pub mod Walks
pub mod Noted
pub mod Effects
pub mod Legal
pub mod Passes
pub mod Laws

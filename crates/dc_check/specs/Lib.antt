-- What the checker makes of stamps.
pub mod Stamps
pub mod Judging
pub mod Judges
pub mod Phases
pub mod Reaches
pub mod Verdicts
pub mod Records
pub mod Due

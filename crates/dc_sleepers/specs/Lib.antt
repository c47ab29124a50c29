-- The lock and the gate as plain data, what each step makes of them, and the laws.
pub mod Outcomes
pub mod Locks
pub mod LockSteps
pub mod LockThreads
pub mod LockLaw
pub mod LockSound
pub mod LocksShown
pub mod Gates
pub mod GateLaw
pub mod GateSteps
pub mod GateSound
pub mod GatesShown

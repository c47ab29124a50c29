-- What the server makes of the bytes that it reads.
pub mod Bytes
pub mod CommandLine
pub mod Endings
pub mod Faults
pub mod Rounds
pub mod Served
pub mod Serving
pub mod Sessions
pub mod Statuses
pub mod Threads
pub mod Turns

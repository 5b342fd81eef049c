pub mod Words
pub mod Seen
pub mod Outcome
pub mod Faults

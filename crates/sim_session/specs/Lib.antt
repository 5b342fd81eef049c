pub mod Faults
pub mod Session
pub mod Text
pub mod Turn

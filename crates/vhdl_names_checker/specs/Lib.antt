pub mod Events
pub mod Around
pub mod Declaring
pub mod Telling
pub mod After
pub mod Faults
pub mod Progress

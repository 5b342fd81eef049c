pub mod Errors
pub mod Host
pub mod Memory
pub mod MemoryView
pub mod Silent

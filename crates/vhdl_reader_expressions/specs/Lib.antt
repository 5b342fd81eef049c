pub mod Nests
pub mod Reading
pub mod Kinds
pub mod Steps

pub mod Nests
pub mod Reading

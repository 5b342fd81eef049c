pub mod Objects
pub mod Located
pub mod Reading
pub mod Aggregates
pub mod Meaning

mod Turns
pub mod Literal_types

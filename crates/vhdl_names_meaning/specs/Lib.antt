pub mod Settling
pub mod Attributes
pub mod Names
pub mod Literals
pub mod Operators
pub mod Ranges
pub mod Trees

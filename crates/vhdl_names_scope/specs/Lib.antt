pub mod Names
pub mod Declarations
pub mod Tables
pub mod Hiding
pub mod Nesting
pub mod Pairs
pub mod Standard

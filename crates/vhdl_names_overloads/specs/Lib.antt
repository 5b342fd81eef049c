pub mod Literals
pub mod Tables
pub mod Hiding
pub mod Finds
pub mod Kinds
pub mod Blocks
pub mod Sharing

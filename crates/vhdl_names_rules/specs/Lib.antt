pub mod Values
pub mod Subtypes
pub mod Objects
pub mod Statements
pub mod Cases
pub mod Associations
pub mod Units
pub mod Kept

pub mod Resolving
pub mod Updating
pub mod Laws

pub mod Walks
pub mod Parts
pub mod Wholes
pub mod Order
pub mod Broken

pub mod Completes
pub mod Laws
pub mod Sounds
mod Turns
pub mod Fronts

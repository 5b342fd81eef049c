pub mod Bounded
mod Completes
pub mod Enters
pub mod Follow
mod Laws
pub mod Reached
pub mod Read
mod Sounds
mod Turns
mod Fronts

pub mod Begins
pub mod Bounded
mod Completes
mod Elements
pub mod Follow
mod Fronts
mod Laws
mod Levels
mod Lone
pub mod NamedBounds
mod NamedFronts
mod Names
mod NamesApart
pub mod Reached
pub mod Read
mod Sounds
mod Spelled
mod Turns
pub mod Apart
pub mod Complete
pub mod FrontLists
pub mod FrontSteps
pub mod Local
pub mod Loops
pub mod NextToken
pub mod SeparatedReader
pub mod Sound
pub mod SoundLists
pub mod Whole

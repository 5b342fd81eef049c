pub mod Apart
pub mod Each
pub mod Trees
pub mod Names
pub mod Targets
pub mod Waves

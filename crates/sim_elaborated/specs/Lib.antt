pub mod Kinds
pub mod Places
pub mod Names
pub mod Design

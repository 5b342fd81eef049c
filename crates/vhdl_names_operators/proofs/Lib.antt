pub mod Members
pub mod Given
pub mod Sharing
pub mod Shared
pub mod Sole

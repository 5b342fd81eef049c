pub mod Parts
pub mod Statements
pub mod Units
pub mod Static
pub mod First
pub mod Resolved

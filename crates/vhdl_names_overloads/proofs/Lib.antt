pub mod Lists
pub mod Same
pub mod Both
pub mod Covered
pub mod Together

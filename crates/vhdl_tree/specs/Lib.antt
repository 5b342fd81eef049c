pub mod Words
pub mod Lists
pub mod Expressions
pub mod Ranges
pub mod Declarations
pub mod Statements
pub mod Units
pub mod Faults

pub mod Values
pub mod Declarations
pub mod Statements
pub mod Instances

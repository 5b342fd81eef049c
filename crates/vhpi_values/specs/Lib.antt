pub mod Types
pub mod Values
pub mod Formats
pub mod Reading
pub mod Printing
pub mod Laws

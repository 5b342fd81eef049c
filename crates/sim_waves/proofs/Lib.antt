pub mod Marks
pub mod Cuts
pub mod Pairs
pub mod Keys

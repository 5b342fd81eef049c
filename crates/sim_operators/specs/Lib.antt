pub mod Outcomes
pub mod Numbers
pub mod Logic
pub mod Operators

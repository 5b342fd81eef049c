pub mod Sets
pub mod Operators
pub mod Relations
pub mod Literals
pub mod Places
pub mod Laws

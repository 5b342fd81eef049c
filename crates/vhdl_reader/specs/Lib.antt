pub mod Depth
pub mod Judgement
pub mod Reading

pub mod Answers
pub mod Building
pub mod FirstForm
pub mod Form
pub mod Reading

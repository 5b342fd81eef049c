pub mod FilesHeld
pub mod Growth
pub mod Taking

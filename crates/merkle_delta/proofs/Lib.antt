pub mod Cutting
pub mod Stepping
pub mod ToldChunks
pub mod Following
pub mod Asking
pub mod HeardReplies

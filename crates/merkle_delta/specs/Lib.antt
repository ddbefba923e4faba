pub mod Chunks
pub mod Deltas
pub mod Messages
pub mod Hearing

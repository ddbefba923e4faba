pub mod Answering
pub mod Entries
pub mod Files
pub mod Pages
pub mod Standing

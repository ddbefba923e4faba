pub mod Answered
pub mod Asked
pub mod FileLaws
pub mod FileTrees
pub mod Sides

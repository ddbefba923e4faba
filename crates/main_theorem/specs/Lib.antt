pub mod After
pub mod Course
pub mod Refusals
pub mod Runs

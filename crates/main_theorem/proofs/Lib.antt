pub mod Lives
pub mod Roots
pub mod Courses
pub mod Gaps

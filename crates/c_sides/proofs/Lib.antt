pub mod Agreeing
pub mod Takes

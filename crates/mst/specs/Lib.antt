pub mod Naming
pub mod Shared

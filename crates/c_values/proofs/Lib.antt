pub mod Lists
pub mod Moved
pub mod Pairs
pub mod Rows
pub mod Strings

pub mod Lists
pub mod Loads
pub mod Pages
pub mod Ranges
pub mod Sets
pub mod Spots

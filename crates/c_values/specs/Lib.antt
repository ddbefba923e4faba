pub mod Handles
pub mod Keys
pub mod Lists
pub mod Output
pub mod Owned
pub mod Trees

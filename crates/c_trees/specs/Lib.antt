pub mod Keys
pub mod Lists
pub mod Pages
pub mod Spots
pub mod Trees
pub mod Wire

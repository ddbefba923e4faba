pub mod Count
pub mod Defined

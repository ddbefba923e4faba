pub mod Agreeing
pub mod Calls
pub mod Needs
pub mod SideTree

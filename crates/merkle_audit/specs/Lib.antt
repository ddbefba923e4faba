pub mod Collisions
pub mod Pages
pub mod Values
pub mod Nodes

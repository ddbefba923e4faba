pub mod Collisions
pub mod PagesBySpan
pub mod FaithfulPages
pub mod SoFar
pub mod RowsBySpan
pub mod Prefixes
pub mod RowValues
pub mod Sides
mod FaithfulNodes
mod NodesAmong
mod PagesOverGaps

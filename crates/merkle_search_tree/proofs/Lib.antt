mod Absent
pub mod Partings
pub mod SplitPages
pub mod SameItems
pub mod LoadOrder
pub mod Replays
pub mod Paths

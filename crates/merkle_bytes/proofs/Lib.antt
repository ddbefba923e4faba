pub mod Bits
pub mod EqualByOrder
pub mod Later
pub mod Listed
pub mod Flagged
pub mod KeyParts
mod KeySizes

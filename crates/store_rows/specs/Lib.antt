pub mod DigestLaws
pub mod Digests
pub mod InStep
pub mod Loads
pub mod Removals
pub mod Roots

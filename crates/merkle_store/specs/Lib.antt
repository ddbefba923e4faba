pub mod Kept
pub mod News
pub mod Framing
pub mod Exchanges
pub mod Sessions
pub mod Fetches

pub mod Handles
pub mod Goes

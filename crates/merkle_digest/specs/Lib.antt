pub mod Digest
pub mod Level
pub mod SipHash
pub mod SipDigests
pub mod Sip24

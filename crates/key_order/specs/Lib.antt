pub mod Order
pub mod Interval
pub mod Map
pub mod NumberLaws
pub mod Join
pub mod Places
pub mod Text

pub mod Absorbing
pub mod LevelLemmas

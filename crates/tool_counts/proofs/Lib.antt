pub mod Places
pub mod Mixes
pub mod Tallies
pub mod Effects
pub mod BlockSums

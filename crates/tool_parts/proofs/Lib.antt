pub mod Effects
pub mod Pairs

pub mod Calls
pub mod Effects
pub mod Pairs
pub mod Text

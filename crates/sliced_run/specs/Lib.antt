pub mod Sliced
pub mod Turns

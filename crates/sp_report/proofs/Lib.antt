pub mod ViewLines
pub mod Hex

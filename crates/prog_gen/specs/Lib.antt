pub mod Instrs
pub mod Draws
pub mod File
pub mod Demo

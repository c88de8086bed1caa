pub mod Demo
pub mod Parts

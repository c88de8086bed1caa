pub mod Shapes
pub mod Blocks
pub mod Routines
pub mod Instructions

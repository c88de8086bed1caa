pub mod Memory
pub mod Views
pub mod Blocks

pub mod Merging
pub mod Powers
pub mod Steps

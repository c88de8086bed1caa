pub mod Steps
pub mod Events
pub mod Runs
pub mod Whole

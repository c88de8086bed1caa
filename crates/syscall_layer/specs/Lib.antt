pub mod Serve
pub mod Input
pub mod Maps
pub mod Step

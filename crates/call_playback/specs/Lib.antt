pub mod Stores
pub mod Areas

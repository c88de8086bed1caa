pub mod Lengths
pub mod Offering

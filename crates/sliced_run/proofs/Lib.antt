pub mod Addresses
pub mod Ending
pub mod Faults
pub mod Lists
pub mod Turns

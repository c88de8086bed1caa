pub mod Calls
pub mod Counts
pub mod Mix
pub mod Profile

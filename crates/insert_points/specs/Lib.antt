pub mod Calls
pub mod Arguments
pub mod Planned
pub mod Events
pub mod Plan

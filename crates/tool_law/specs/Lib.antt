pub mod Law
pub mod Planning
pub mod Events

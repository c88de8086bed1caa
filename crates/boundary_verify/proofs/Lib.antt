pub mod Matches
pub mod Along
pub mod Cuts
pub mod Ends
pub mod Joins
pub mod Lines
pub mod Rules

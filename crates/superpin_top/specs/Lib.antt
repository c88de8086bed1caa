pub mod Due
pub mod Causes
pub mod Engine
pub mod Outcome
pub mod Top
pub mod Answered

pub mod Answered
pub mod Steady
pub mod Due
pub mod Sums

pub mod Calls
pub mod Shown
pub mod Slice
pub mod Text
pub mod Trace

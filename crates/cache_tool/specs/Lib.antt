pub mod Cache
pub mod Calls
pub mod Shown
pub mod Sizes
pub mod Slice
pub mod Text

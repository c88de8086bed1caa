pub mod Ending
pub mod Filling
pub mod Going
pub mod Lists
pub mod Merging

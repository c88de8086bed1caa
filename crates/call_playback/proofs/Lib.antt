pub mod Stores
pub mod Finished
pub mod Records
pub mod Playing

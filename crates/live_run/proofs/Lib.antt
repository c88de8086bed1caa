pub mod Orders
pub mod Tags
pub mod Pieces
pub mod Ending
pub mod Sent
pub mod Publishing
pub mod Driving
pub mod Closing

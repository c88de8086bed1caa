pub mod Frames
pub mod Words
pub mod Segments
pub mod Running
pub mod Slots

pub mod Frames
pub mod Memory
pub mod Mapped
pub mod Sound
pub mod Code
pub mod Table
pub mod Frozen

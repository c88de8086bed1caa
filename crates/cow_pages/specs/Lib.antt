pub mod Contents
pub mod Frames
pub mod Kept
pub mod Laid
pub mod Marks
pub mod Named

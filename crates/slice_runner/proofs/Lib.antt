pub mod Signatures
pub mod Turns
pub mod Frames
pub mod SoFar
pub mod Slices
pub mod Trying

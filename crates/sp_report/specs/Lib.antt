pub mod Digits
pub mod View
pub mod Instruction
pub mod Answer
pub mod Lines
pub mod Slices

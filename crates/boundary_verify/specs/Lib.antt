pub mod Path
pub mod Job
pub mod Cuts
pub mod Pieces
pub mod Lines

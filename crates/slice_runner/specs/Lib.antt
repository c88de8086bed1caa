pub mod Piece
pub mod Turn
pub mod Checked

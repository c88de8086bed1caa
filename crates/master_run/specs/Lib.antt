pub mod Answers
pub mod Master
pub mod Progress
pub mod Inside
pub mod Turn

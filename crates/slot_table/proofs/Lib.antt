pub mod Rules
pub mod Sheets

pub mod Rules
pub mod Spares

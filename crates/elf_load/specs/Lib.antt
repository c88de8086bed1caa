pub mod Elf
pub mod Header
pub mod Image
pub mod Limits
pub mod Symbols
pub mod Tests

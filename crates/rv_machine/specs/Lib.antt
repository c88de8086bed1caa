pub mod Slots
pub mod Load
pub mod Guest
pub mod Step
pub mod Lending
pub mod Ran
pub mod Snapshot

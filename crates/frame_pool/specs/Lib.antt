pub mod Bytes
pub mod Kept
pub mod PoolState
pub mod Spare

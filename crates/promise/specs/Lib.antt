pub mod Bytes
pub mod Holds
pub mod Demand2
pub mod Swaps
pub mod Places

pub mod Writes
pub mod Looks
pub mod Confirm
pub mod Emission
pub mod Swap
pub mod LookedAt

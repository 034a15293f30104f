pub mod Sound
pub mod Only
pub mod Fault

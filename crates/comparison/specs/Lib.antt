pub mod Emptying
pub mod Comparison

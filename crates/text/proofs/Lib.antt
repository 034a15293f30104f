pub mod Quotient
pub mod Numerals
pub mod Unique
pub mod Writing
pub mod Remaining
pub mod Phrases
mod Examples

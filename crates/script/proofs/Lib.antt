pub mod Fields
pub mod Numbers
pub mod Decimals
pub mod Digits
pub mod Pairs
pub mod Back
mod Examples

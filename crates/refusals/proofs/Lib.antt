pub mod Rows
pub mod Demand1

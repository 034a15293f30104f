pub mod Lives
pub mod Sums

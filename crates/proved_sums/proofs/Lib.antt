pub mod Cut
pub mod Shown
pub mod Lived
pub mod Stretches
pub mod AnySize
pub mod Sums
pub mod Zeros

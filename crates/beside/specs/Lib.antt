pub mod AtOnce
pub mod Life
pub mod Beside

pub mod Facts
pub mod First
pub mod Agreeing
pub mod Three

pub mod Numbers
pub mod Heard
pub mod Pieces

pub mod Lines
pub mod Reply

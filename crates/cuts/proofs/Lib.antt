pub mod Cut
pub mod State

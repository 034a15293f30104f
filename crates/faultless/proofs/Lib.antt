pub mod Recordings
pub mod Fitting
pub mod Rings
pub mod Converse
pub mod Alike
pub mod Ends
pub mod Alone

pub mod Before
pub mod Reasons

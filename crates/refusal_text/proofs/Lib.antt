pub mod Refusals
mod Examples

pub mod Calls
pub mod Firmware

pub mod Calls
pub mod Transfer
pub mod Telling

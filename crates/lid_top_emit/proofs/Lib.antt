pub mod Spelled
pub mod Endings

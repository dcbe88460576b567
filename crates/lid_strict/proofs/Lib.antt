pub mod Running
pub mod Tables
pub mod Outputs
pub mod Accepted
pub mod Stemming
pub mod Layouts
pub mod Buffers

pub mod Reached
pub mod Tables
pub mod Parts
mod Example

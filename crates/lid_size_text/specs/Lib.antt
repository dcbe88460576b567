pub mod Sizes
pub mod Slacks

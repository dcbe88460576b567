pub mod Draws
pub mod Designs
pub mod Runs

pub mod Ratios
pub mod Tried
pub mod Shown

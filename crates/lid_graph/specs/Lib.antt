pub mod Walks
pub mod Firings
pub mod Forests
pub mod Ratios
pub mod Rateable

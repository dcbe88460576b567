pub mod Passing
pub mod Shortness
pub mod Bounds
pub mod Flats
pub mod Laws

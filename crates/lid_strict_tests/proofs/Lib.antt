pub mod Cubes
pub mod Nets

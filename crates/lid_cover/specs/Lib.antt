pub mod Cover
pub mod Masks

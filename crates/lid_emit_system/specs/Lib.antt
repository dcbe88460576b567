pub mod Nets
pub mod Wrapping
pub mod Faces
pub mod Laws

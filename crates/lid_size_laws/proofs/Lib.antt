pub mod Scaling
pub mod Alike
pub mod Forward

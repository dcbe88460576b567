pub mod Shells
pub mod Reading
pub mod Filling
pub mod Making

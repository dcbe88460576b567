pub mod Ports
pub mod Runs
pub mod Sizes
pub mod Emitted

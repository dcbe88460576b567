pub mod Ports
pub mod Formals
pub mod Nets

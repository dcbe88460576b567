pub mod Ports
pub mod Agreement

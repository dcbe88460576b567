pub mod Sets
pub mod Clocking
pub mod Telling
pub mod Roots
pub mod Faults
pub mod Passing
pub mod Buffers
pub mod Ports

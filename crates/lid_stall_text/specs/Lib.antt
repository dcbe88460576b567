pub mod Stalls
pub mod Holds

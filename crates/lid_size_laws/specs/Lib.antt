pub mod Capacities
pub mod Laws
pub mod Differing

pub mod Plans
pub mod Setups
pub mod Machine
pub mod Laws

pub mod Runs
pub mod Setups
pub mod Rules
pub mod Views
pub mod Laws

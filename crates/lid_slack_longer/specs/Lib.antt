pub mod Longer
pub mod Laws
pub mod Labels

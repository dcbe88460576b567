pub mod Spelling
pub mod Wires
pub mod Named
pub mod Laws

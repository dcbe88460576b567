pub mod Parts
pub mod Spots
pub mod Standing
pub mod Edges
pub mod Alive
pub mod Movers

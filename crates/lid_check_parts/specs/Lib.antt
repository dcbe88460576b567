pub mod PearlParts
pub mod Inner
pub mod Parts
pub mod Standing

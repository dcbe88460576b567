mod Cells
mod Dumps
mod Feeding
mod Lifetimes
mod Tracing
pub mod Scripted
pub mod Walked
pub mod Waved

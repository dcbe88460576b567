pub mod Bits
pub mod Rows
pub mod Input
pub mod Writing

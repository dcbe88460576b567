pub mod Reads
pub mod Pieces
pub mod Cutting
pub mod Bits

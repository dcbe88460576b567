pub mod Ascending
pub mod Consequences
pub mod Parts
pub mod Owning

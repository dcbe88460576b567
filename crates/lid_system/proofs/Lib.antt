pub mod Points
pub mod Walking
pub mod Shelling
pub mod Streaming
pub mod Packing
pub mod Example
pub mod Giving

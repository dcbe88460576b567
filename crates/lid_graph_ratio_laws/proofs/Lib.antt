pub mod Splitting
pub mod Deciding
pub mod Lowest
pub mod Finding
pub mod Lagging
pub mod Single

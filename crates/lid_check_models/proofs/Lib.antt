pub mod Counting
pub mod Placed
pub mod Limiting
pub mod Passing
pub mod Judging

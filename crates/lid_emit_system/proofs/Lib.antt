pub mod Planning
pub mod Cycles
pub mod Carrying
pub mod Telling
pub mod Delivering
pub mod Connecting
